-- The command language: which words are which command.
use Rattle.std.specs.Prelude.{◌≡◌, ℕ, cond, List, [], ◌∷◌, drop, ℤ, is_some, Some, None, codes, Option, nat_lt}
use Rattle.std.specs.Option.{option_map, unwrap_or}
use Rattle.std.specs.Str.{bytes_eq}
use Rattle.console.specs.Hex.{bytes_of}
use Rattle.console.specs.Numbers.{unsigned_of, signed_of}
use Rattle.console.specs.Words.{first}
use Rattle.rooms.specs.declared.calls.RoomCall.{RoomCall}
use Rattle.rooms.specs.declared.calls.RoomCall.TheVariants as call
use Rattle.commands.specs.declared.keyword.Keyword.{Keyword}
use Rattle.commands.specs.declared.keyword.Keyword.TheVariants as key
use Rattle.commands.specs.declared.command.Command.{Command}
use Rattle.commands.specs.declared.command.Command.TheVariants as command
use Rattle.commands.specs.declared.command.Misread.{Misread}
use Rattle.commands.specs.declared.command.Misread.TheVariants as misread
use Rattle.commands.specs.declared.command.RoomChoice.{RoomChoice}
use Rattle.commands.specs.declared.command.RoomKind.{RoomKind}
use Rattle.commands.specs.declared.command.RoomKind.TheVariants as kind

-- which room is chosen, a record by its HEX
pub data Kind : Type 0 where
  slot : Kind
  hex : List ℕ → Kind

-- what a line asks for: a room, perhaps by a window's base; the record; or a room call
pub data Asked : Type 0 where
  room : Option ℕ → Kind → Asked
  shown : Asked
  called : RoomCall → Asked

abbrev pub kind_asked : RoomKind → Kind
kind_asked kind.Slot = slot
kind_asked (kind.Record word) = hex word.now

abbrev pub room_asked : RoomChoice → Asked
room_asked choice = room choice.base (kind_asked choice.kind)

-- what a command asks for
abbrev pub asked : Command → Asked
asked (command.Room choice) = room_asked choice
asked command.Record = shown
asked (command.Call c) = called c

-- the keyword that a word is
abbrev pub keyword_of : List ℕ → Option Keyword
keyword_of w =
    cond (bytes_eq w (codes "room")) (Some key.Room)
    (cond (bytes_eq w (codes "record")) (Some key.Record)
    (cond (bytes_eq w (codes "size")) (Some key.Size)
    (cond (bytes_eq w (codes "held")) (Some key.Held)
    (cond (bytes_eq w (codes "look")) (Some key.Look)
    (cond (bytes_eq w (codes "put")) (Some key.Put)
    (cond (bytes_eq w (codes "clear")) (Some key.Clear)
    (cond (bytes_eq w (codes "take")) (Some key.Take)
    (cond (bytes_eq w (codes "give")) (Some key.Give) None))))))))

-- the first of some words, empty where there is none
abbrev pub word : List (List ℕ) → List ℕ
word ws = unwrap_or (first ws) []

-- no word may be left
abbrev pub ended : {X : Type 0} → Option X → List (List ℕ) → Option X
ended None ws = None
ended (Some x) [] = Some x
ended (Some x) (w ∷ ws) = None

-- one number and no more
abbrev pub only_number : List (List ℕ) → Option ℕ
only_number ws = ended (unsigned_of (word ws)) (drop 1 ws)

-- a cell, what to put there, and no more
abbrev pub put_of : Option ℕ → Option ℤ → Option RoomCall
put_of None n = None
put_of (Some c) None = None
put_of (Some c) (Some n) = Some (call.Put c n)

abbrev pub only_put : List (List ℕ) → Option RoomCall
only_put ws = ended (put_of (unsigned_of (word ws)) (signed_of (word (drop 1 ws)))) (drop 1 (drop 1 ws))

-- a word that is HEX; it may be empty, but it has to be there
abbrev pub hex_in : Option (List ℕ) → Option (List ℕ)
hex_in None = None
hex_in (Some h) = cond (is_some (bytes_of h)) (Some h) None

-- `slot`, or `record` and HEX, and no more
abbrev pub only_kind : List ℕ → List (List ℕ) → Option Kind
only_kind w ws =
    cond (bytes_eq w (codes "slot")) (ended (Some slot) ws)
    (cond (bytes_eq w (codes "record")) (ended (option_map hex (hex_in (first ws))) (drop 1 ws)) None)

-- a window's base is from 0 to 255
abbrev pub base_of : Option ℕ → Option ℕ
base_of None = None
base_of (Some b) = cond (nat_lt b 256) (Some b) None

abbrev pub window_of : Option ℕ → Option Kind → Option Asked
window_of None k = None
window_of (Some b) k = option_map (room (Some b)) k

-- a kind, or `window`, a base and a kind
abbrev pub only_room : List ℕ → List (List ℕ) → Option Asked
only_room w ws =
    cond (bytes_eq w (codes "window")) (window_of (base_of (unsigned_of (word ws))) (only_kind (word (drop 1 ws)) (drop 1 (drop 1 ws))))
    (option_map (room None) (only_kind w ws))

-- what the words after a keyword ask for
abbrev pub arguments_of : Keyword → List (List ℕ) → Option Asked
arguments_of key.Room ws = only_room (word ws) (drop 1 ws)
arguments_of key.Record ws = ended (Some shown) ws
arguments_of key.Size ws = ended (Some (called call.Size)) ws
arguments_of key.Held ws = option_map (λ k. called (call.Held k)) (only_number ws)
arguments_of key.Look ws = option_map (λ c. called (call.Get c)) (only_number ws)
arguments_of key.Put ws = option_map called (only_put ws)
arguments_of key.Clear ws = option_map (λ c. called (call.Clear c)) (only_number ws)
arguments_of key.Take ws = option_map (λ k. called (call.Take k)) (only_number ws)
arguments_of key.Give ws = option_map (λ k. called (call.Give k)) (only_number ws)

-- what the words of a line ask for, if they are a command
abbrev pub by_keyword : Option Keyword → List (List ℕ) → Option Asked
by_keyword None ws = None
by_keyword (Some k) ws = arguments_of k ws

abbrev pub command_of : List (List ℕ) → Option Asked
command_of ws = by_keyword (keyword_of (word ws)) (drop 1 ws)

-- an error names the keyword of its line, if that has one
abbrev pub Names : Option Misread → Option Keyword → Type 0
Names None k = Unit {0}
Names (Some misread.NoSuchCommand) k = k ≡ None
Names (Some (misread.Form keyword fault)) k = k ≡ Some keyword
