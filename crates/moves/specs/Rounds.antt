-- A shop compiled, read back and compiled again, any number of times, as the calls of the library were made and answered (02, A.14). Assumes nothing: these are definitions.
use Rattle.std.specs.Prelude.{◌≡◌, List, ◌∷◌, ℕ, suc, ◌≤◌, ◌<◌, drop}
use Rattle.std.proofs.Math.Option.{some}
use Rattle.model.specs.Sheet.{Sheet}
use Rattle.model.specs.Script.{Block}
use Rattle.model.specs.Memory.{script_of}
use Rattle.model.specs.RecordCalls.{Born, parse_in}
use Rattle.model.specs.Lists.{Along, after_all, last_at, now_at}
use Rattle.shop_arrays.specs.Arrays.{Arrays}
use Rattle.parse.specs.Answer.{ParsedInto}
use Rattle.reclaim_record.proofs.Stands.{LongBorn}
use Rattle.library.specs.Delivered.{AsPromised, Made, compile, left_by, made, shop_of}

-- an lk_compile of a shop, on any script and at any block of it, and what lk_compile and lk_reclaim were called after it
pub record Round : Type 0 where
  pub start : Born
  pub loader : ℕ
  pub setup : ℕ
  pub shop : Arrays
  pub call : Made
  pub later : List Made

abbrev pub calls_of : Round → List Made
calls_of x = x.call ∷ x.later

-- every call answered as it promises, and this compile was accepted. long: the lengths of the five arrays, which the types of the calls say
pub record Compiled (h : Sheet) (x : Round) : Type 0 where
  pub long : LongBorn x.start
  pub asked : x.call.asked ≡ compile x.loader x.setup x.shop
  pub promised : Along made (AsPromised h) x.start (calls_of x)
  pub accepted : x.call.answer.refusal ≡ 0

-- after those calls the shop is still the one accepted last at its block, wherever reclaims moved that, and t is what lk_parse read there
pub record ReadBack (h : Sheet) (x : Round) (t : Arrays) : Type 0 where
  pub block : ℕ
  pub now : now_at made x.start (calls_of x) x.setup ≡ some block
  pub last : last_at made x.start (calls_of x) x.setup ≡ some (shop_of x.shop)
  pub answer : ℕ
  pub parsed : ParsedInto (parse_in h (after_all made x.start (calls_of x)).memory block) answer t

-- rounds by number from 0 on, all under one sheet: none of the compiles is refused, and what was read back after one is what the next is given
pub record Rounds (h : Sheet) (round : ℕ → Round) (last : ℕ) : Type 0 where
  pub compiled : (k : ℕ) → k ≤ last → Compiled h (round k)
  pub next : (k : ℕ) → k < last → ReadBack h (round k) (round (suc k)).shop

-- the blocks that the compile of a round appended: those past the blocks that the script had
unfoldable pub appended_by : Round → List Block
appended_by x = drop x.start.memory.count (script_of (left_by x.call).memory).blocks
