-- The program slots from bytes to bytes: sheet, setup number and image in, twenty lines or a refusal out (01, Image and printer). Assumes nothing: these are definitions.
use Rattle.std.specs.Prelude.{Bool, true, false, not, cond, ◌&&◌, List, [], ◌∷◌, ◌++◌, ℕ, zero, suc, ◌+◌, ◌/◌, ◌%◌, ltb, leb, eqb, length, ℤ, pos, negsuc}
use Rattle.std.proofs.Math.Option.{Option, none, some}
use Rattle.model.specs.Limits.{fewest_items, most_items, most_atcs, wide, input_limit}
use Rattle.model.specs.Refusal.{bad_sheet, over_limit}
use Rattle.model.specs.Reading.{Answer, got, refused, onward, number}
use Rattle.model.specs.Sheet.{Sheet}
use Rattle.model.specs.Requirement.{Requirement, haveItem, missingItem, haveAtc, missingAtc, haveFlag, missingFlag}
use Rattle.model.specs.Requirement
use Rattle.model.specs.Shop.{Slot}
use Rattle.model.specs.Script.{Block}
use Rattle.model.specs.Image.{read_image}
use Rattle.model.specs.Judge.{counted}
use Rattle.model.specs.Parse.{Parsed, parse_call}

-- ---- the sheet: n, m, per item atc + 1 or 0, Timer5, 10, 15; each number judged as read

abbrev pub must : {A : Type 0} → Bool → Answer A → Answer A
must true a = a
must false a = refused bad_sheet

abbrev pub atc_entry : ℕ → Option ℕ
atc_entry zero = none
atc_entry (suc a) = some a

unfoldable pub read_atcs : ℕ → ℕ → List ℕ → Answer (List (Option ℕ))
read_atcs zero m s = got [] s
read_atcs (suc n) m s = onward (number wide s) (λ k r. must (leb k m) (onward (read_atcs n m r) (λ xs t. got (atc_entry k ∷ xs) t)))

unfoldable pub read_timers : List (Option ℕ) → ℕ → List ℕ → Answer Sheet
read_timers xs m s =
    onward (number wide s) (λ t5 r. must (ltb t5 (length xs))
    (onward (number wide r) (λ t10 t. must (ltb t10 (length xs) && not (eqb t10 t5))
    (onward (number wide t) (λ t15 u. must (ltb t15 (length xs) && (not (eqb t15 t5) && not (eqb t15 t10)))
    (got (record { atc_of = xs; atc_count = m; timer5 = t5; timer10 = t10; timer15 = t15 }) u))))))

unfoldable pub read_sheet : List ℕ → Answer Sheet
read_sheet s =
    onward (number wide s) (λ n r. must (leb fewest_items n && leb n most_items)
    (onward (number wide r) (λ m t. must (leb m most_atcs)
    (onward (read_atcs n m t) (λ xs u. read_timers xs m u)))))

-- ---- text, as bytes

-- decimal, at most f digits
unfoldable pub digits_to : ℕ → ℕ → List ℕ
digits_to zero n = []
digits_to (suc f) n = cond (ltb n 10) ((48 + n) ∷ []) (digits_to f (n / 10) ++ (48 + n % 10) ∷ [])

-- ten digits hold 32 bits
unfoldable pub decimal : ℕ → List ℕ
decimal n = digits_to 10 n

unfoldable pub signed_decimal : ℤ → List ℕ
signed_decimal (pos n) = decimal n
signed_decimal (negsuc n) = 45 ∷ decimal (suc n)

-- I i A a F f
unfoldable pub letter : Requirement → ℕ
letter (haveItem i) = 73
letter (missingItem i) = 105
letter (haveAtc a) = 65
letter (missingAtc a) = 97
letter (haveFlag f) = 70
letter (missingFlag f) = 102

unfoldable pub requirements_text : List Requirement → List ℕ
requirements_text [] = []
requirements_text (r ∷ rs) = 32 ∷ letter r ∷ (signed_decimal (Requirement.number r) ++ requirements_text rs)

unfoldable pub item_text : Option ℕ → List ℕ
item_text none = 45 ∷ []
item_text (some w) = decimal w

unfoldable pub slot_line : ℕ → Slot → List ℕ
slot_line i x = decimal i ++ (32 ∷ (item_text x.item ++ (32 ∷ (signed_decimal x.limit ++ (requirements_text x.requirements ++ 10 ∷ [])))))

unfoldable pub slot_lines : ℕ → List Slot → List ℕ
slot_lines i [] = []
slot_lines i (x ∷ xs) = slot_line i x ++ slot_lines (suc i) xs

-- refused N
unfoldable pub refused_text : ℕ → List ℕ
refused_text n = 114 ∷ 101 ∷ 102 ∷ 117 ∷ 115 ∷ 101 ∷ 100 ∷ 32 ∷ (decimal n ++ 10 ∷ [])

-- ---- the whole

pub record Input : Type 0 where
  pub sheet : Sheet
  pub setup : ℕ
  pub blocks : List Block

unfoldable pub read_input : List ℕ → Answer Input
read_input s =
    onward (read_sheet s) (λ h r. onward (number wide r) (λ b t. onward (read_image t) (λ bs u. got (record { sheet = h; setup = b; blocks = bs }) u)))

abbrev pub answer_text : ℕ → List Slot → List ℕ
answer_text zero xs = slot_lines 0 xs
answer_text (suc n) xs = refused_text (suc n)

unfoldable pub parsed_text : Parsed → List ℕ
parsed_text p = answer_text p.answer p.slots

unfoldable pub input_text : Answer Input → List ℕ
input_text (got i r) = parsed_text (parse_call i.sheet (counted i.blocks) i.setup)
input_text (refused n) = refused_text n

-- longer than the limit is 3 before all else
unfoldable pub slots : List ℕ → List ℕ
slots s = cond (leb (length s) input_limit) (input_text (read_input s)) (refused_text over_limit)
