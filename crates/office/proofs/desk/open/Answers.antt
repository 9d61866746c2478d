use Rattle.std.proofs.Common.{rules, ◌≡◌, ◌≢◌, ℕ, length, refl, List, Some, None, Err, Option}
use Rattle.console.specs.Hex.{bytes_of, Unfit}
use Rattle.rooms.specs.declared.refusal.BadRecord.TheVariants.{Length}
use Rattle.office.specs.Replies.{OpensHex}
use Rattle.office.proofs.desk.open.Goals as goal

-- bytes of another length are no record
unfit : (base : Option ℕ) (o : Option (List ℕ)) → ((bytes : List ℕ) → o ≡ Some bytes → length bytes ≢ 289) → OpensHex base o (Err Length)
unfit base None h = refl
unfit base (Some bytes) h = h bytes refl

pub returns-in_err-map_err-in-Record : goal.returns-in_err-map_err-in-Record
returns-in_err-map_err-in-Record c =
    let other : Unfit c.in-Record.hex.now 289 = search rules in
    let refused : c.from_residual.result ≡ Err Length = search rules in
    rw (c.in-Record.is, refused) (unfit _ (bytes_of c.in-Record.hex.now) other)
