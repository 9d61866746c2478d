-- `Vec<u8>` as the logic holds it, for the clause on what a vector ends as once what it lent is given back.
use Rattle.std.specs.Borrow.{RattleType, u8}
use Rattle.std.specs.contracts.alloc.Global as global
use Rattle.std.specs.contracts.vec.Vec as vec
use Rattle.std.specs.contracts.impls.GlobalAllocator.TheImpl.{ghosts}

abbrev pub bytes_row : RattleType
bytes_row = vec.the_row u8 global.the_row ghosts
