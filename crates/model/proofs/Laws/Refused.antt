-- The reader of images refuses with a number that is not 0, whatever it is given. Assumes nothing.
use Rattle.std.specs.Prelude.{◌≡◌, refl, Bool, true, false, List, [], ◌∷◌, ltb, leb}
use Rattle.std.proofs.Math.Bool.{cond}
use Rattle.std.proofs.Math.Option.{some}
use Prim.Native.Nat.{ℕ, zero, suc, ◌+◌, ◌<◌}
use Rattle.std.proofs.Common.{arith}
use Rattle.model.specs.Limits.{block_limit, depth_limit, wide, wide16}
use Rattle.model.specs.Refusal.{bad_image, over_limit, too_deep, no_such_link}
use Rattle.model.specs.Reading.{Answer, got, refused, onward, refusal_of, groups, under, number, zag}
use Rattle.model.specs.Expr.{Expr, two, one, imm16, imm32, size}
use Rattle.model.specs.Script.{goto, set_variable, set_other, if_else, end_if, Block, code, command_nodes, block_nodes, block_commands}
use Rattle.model.specs.Image.{kind_of, read_kind, read_operands, read_expr, Limits, limits, read_block_no, link_of, read_link, read_term, set_of, command_of, read_command, read_commands, read_code, block_of, read_block, read_blocks, ended, read_within}
use Rattle.model.specs.declared.Kind.{Kind}
use Rattle.model.specs.declared.Kind.TheVariants.{Two, One, Imm16, Imm32, Other}

-- a value, or a refusal that is one
abbrev pub Proper : {A : Type 0} → Answer A → Type 0
Proper (got x r) = Unit {0}
Proper (refused e) = 0 < e

-- so 0 is acceptance
pub record Accepts {A : Type 0} (a : Answer A) : Type 0 where
  pub value : A
  pub rest : List ℕ
  pub was : a ≡ got value rest

pub accepts : {A : Type 0} (a : Answer A) → Proper a → refusal_of a ≡ 0 → Accepts a
accepts (got x r) h p = record { value = x; rest = r; was = refl }
accepts (refused e) h p = absurd (omega arith)

pub proper_onward : {A B : Type 0} (a : Answer A) (k : A → List ℕ → Answer B) → Proper a → ((x : A) (r : List ℕ) → Proper (k x r)) → Proper (onward a k)
proper_onward (got x r) k h f = f x r
proper_onward (refused e) k h f = h

pub proper_cond : {A : Type 0} (b : Bool) (a a' : Answer A) → Proper a → Proper a' → Proper (cond b a a')
proper_cond true a a' h g = h
proper_cond false a a' h g = g

proper_under : (l : ℕ) (a : Answer ℕ) → Proper (under l a)
unfolding under
proper_under l (got v r) = proper_cond (ltb v l) (got v r) (refused bad_image) tt (omega arith)
proper_under l (refused e) = omega arith

pub proper_number : (l : ℕ) (s : List ℕ) → Proper (number l s)
unfolding number
proper_number l s = proper_under l (groups 5 s)

-- ---- expressions

proper_kind : (s : List ℕ) → Proper (read_kind s)
unfolding read_kind
proper_kind s = proper_onward (number 19 s) (λ c r. got (kind_of c) r) (proper_number 19 s) (λ c r. tt)

proper_operands : (f : ℕ → List ℕ → Answer Expr) → ((n : ℕ) (s : List ℕ) → Proper (f n s)) → (n : ℕ) (k : Kind) (s : List ℕ) → Proper (read_operands f n k s)
unfolding read_operands
proper_operands f h n (Two o) s =
    proper_onward (f (suc n) s) (λ a r. onward (f (suc n + size a) r) (λ b t. got (two o a b) t)) (h (suc n) s)
    (λ a r. proper_onward (f (suc n + size a) r) (λ b t. got (two o a b) t) (h (suc n + size a) r) (λ b t. tt))
proper_operands f h n (One o) s = proper_onward (f (suc n) s) (λ a r. got (one o a) r) (h (suc n) s) (λ a r. tt)
proper_operands f h n Imm16 s = proper_onward (number wide16 s) (λ v r. got (imm16 (zag v)) r) (proper_number wide16 s) (λ v r. tt)
proper_operands f h n Imm32 s = proper_onward (number wide s) (λ v r. got (imm32 (zag v)) r) (proper_number wide s) (λ v r. tt)
proper_operands f h n Other s = tt

pub proper_expr : (l d n : ℕ) (s : List ℕ) → Proper (read_expr l d n s)
unfolding read_expr
proper_expr l zero n s =
    proper_onward (read_kind s) (λ k r. cond (ltb n l) (refused too_deep) (refused over_limit)) (proper_kind s)
    (λ k r. proper_cond {A = Expr} (ltb n l) (refused too_deep) (refused over_limit) (omega arith) (omega arith))
proper_expr l (suc d) n s =
    proper_onward (read_kind s) (λ k r. cond (ltb n l) (read_operands (read_expr l d) n k r) (refused over_limit)) (proper_kind s)
    (λ k r. proper_cond (ltb n l) (read_operands (read_expr l d) n k r) (refused over_limit) (proper_operands (read_expr l d) (proper_expr l d) n k r) (omega arith))

-- ---- links

pub proper_block_no : (m : ℕ) (s : List ℕ) → Proper (read_block_no m s)
unfolding read_block_no
proper_block_no m s =
    proper_onward (number wide s) (λ k r. cond (ltb k m) (got k r) (refused no_such_link)) (proper_number wide s)
    (λ k r. proper_cond (ltb k m) (got k r) (refused no_such_link) tt (omega arith))

proper_link_of : (m k : ℕ) (s : List ℕ) → Proper (link_of m k s)
unfolding link_of
proper_link_of m zero s = tt
proper_link_of m (suc k) s = proper_cond (ltb k m) (got (some k) s) (refused no_such_link) tt (omega arith)

pub proper_link : (m : ℕ) (s : List ℕ) → Proper (read_link m s)
unfolding read_link
proper_link m s = proper_onward (number wide s) (λ k r. link_of m k r) (proper_number wide s) (proper_link_of m)

-- ---- commands and blocks

module _ (l : Limits) where
  proper_term : (n : ℕ) (s : List ℕ) → Proper (read_term l n s)
  unfolding read_term
  proper_term n s = proper_expr l.nodes depth_limit n s

  proper_set : (n k : ℕ) (s : List ℕ) → Proper (set_of l n k s)
  unfolding set_of
  proper_set n zero s =
      proper_onward (read_term l n s) (λ t r. onward (read_term l (n + size t) r) (λ e u. got (set_variable t e) u)) (proper_term n s)
      (λ t r. proper_onward (read_term l (n + size t) r) (λ e u. got (set_variable t e) u) (proper_term (n + size t) r) (λ e u. tt))
  proper_set n (suc k) s = proper_onward (read_term l n s) (λ e u. got (set_other e) u) (proper_term n s) (λ e u. tt)

  proper_command_of : (n k : ℕ) (s : List ℕ) → Proper (command_of l n k s)
  unfolding command_of
  proper_command_of n zero s = tt
  proper_command_of n (suc zero) s = proper_onward (read_block_no l.blocks s) (λ k r. got (goto k) r) (proper_block_no l.blocks s) (λ k r. tt)
  proper_command_of n (suc (suc zero)) s = proper_onward (number 2 s) (λ k r. set_of l n k r) (proper_number 2 s) (proper_set n)
  proper_command_of n (suc (suc (suc zero))) s =
      proper_onward (read_term l n s) (λ e r. onward (read_block_no l.blocks r) (λ k u. got (if_else e k) u)) (proper_term n s)
      (λ e r. proper_onward (read_block_no l.blocks r) (λ k u. got (if_else e k) u) (proper_block_no l.blocks r) (λ k u. tt))
  proper_command_of n (suc (suc (suc (suc zero)))) s = proper_onward (read_block_no l.blocks s) (λ k r. got (end_if k) r) (proper_block_no l.blocks s) (λ k r. tt)
  proper_command_of n (suc (suc (suc (suc (suc k))))) s = tt

  pub proper_command : (n : ℕ) (s : List ℕ) → Proper (read_command l n s)
  unfolding read_command
  proper_command n s = proper_onward (number 6 s) (λ k r. command_of l n k r) (proper_number 6 s) (proper_command_of n)

  pub proper_commands : (c n : ℕ) (s : List ℕ) → Proper (read_commands l c n s)
  unfolding read_commands
  proper_commands zero n s = tt
  proper_commands (suc c) n s =
      proper_onward (read_command l n s) (λ x r. onward (read_commands l c (n + command_nodes x) r) (λ xs u. got (x ∷ xs) u)) (proper_command n s)
      (λ x r. proper_onward (read_commands l c (n + command_nodes x) r) (λ xs u. got (x ∷ xs) u) (proper_commands c (n + command_nodes x) r) (λ xs u. tt))

  proper_code : (n c : ℕ) (s : List ℕ) → Proper (read_code l n c s)
  unfolding read_code
  proper_code n c s =
      proper_onward (read_commands l c n s) (λ cs r. onward (read_link l.blocks r) (λ nx t. onward (read_link l.blocks t) (λ el u. got (code cs nx el) u))) (proper_commands c n s)
      (λ cs r. proper_onward (read_link l.blocks r) (λ nx t. onward (read_link l.blocks t) (λ el u. got (code cs nx el) u)) (proper_link l.blocks r)
      (λ nx t. proper_onward (read_link l.blocks t) (λ el u. got (code cs nx el) u) (proper_link l.blocks t) (λ el u. tt)))

  proper_block_of : (m n k : ℕ) (s : List ℕ) → Proper (block_of l m n k s)
  unfolding block_of
  proper_block_of m n zero s = tt
  proper_block_of m n (suc zero) s =
      proper_onward (number wide s) (λ c r. cond (leb (m + c) l.commands) (read_code l n c r) (refused over_limit)) (proper_number wide s)
      (λ c r. proper_cond (leb (m + c) l.commands) (read_code l n c r) (refused over_limit) (proper_code n c r) (omega arith))
  proper_block_of m n (suc (suc k)) s = tt

  pub proper_block : (m n : ℕ) (s : List ℕ) → Proper (read_block l m n s)
  unfolding read_block
  proper_block m n s = proper_onward (number 3 s) (λ k r. block_of l m n k r) (proper_number 3 s) (proper_block_of m n)

  pub proper_blocks : (b m n : ℕ) (s : List ℕ) → Proper (read_blocks l b m n s)
  unfolding read_blocks
  proper_blocks zero m n s = tt
  proper_blocks (suc b) m n s =
      proper_onward (read_block l m n s) (λ x r. onward (read_blocks l b (m + block_commands x) (n + block_nodes x) r) (λ xs u. got (x ∷ xs) u)) (proper_block m n s)
      (λ x r. proper_onward (read_blocks l b (m + block_commands x) (n + block_nodes x) r) (λ xs u. got (x ∷ xs) u) (proper_blocks b (m + block_commands x) (n + block_nodes x) r) (λ xs u. tt))

proper_ended : (bs : List Block) (s : List ℕ) → Proper (ended bs s)
unfolding ended
proper_ended bs [] = tt
proper_ended bs (x ∷ s) = omega arith

pub proper_within : (c n : ℕ) (s : List ℕ) → Proper (read_within c n s)
unfolding read_within
proper_within c n s =
    proper_onward (number wide s) (λ b r. cond (leb b block_limit) (onward (read_blocks (limits b c n) b 0 0 r) ended) (refused over_limit)) (proper_number wide s)
    (λ b r. proper_cond (leb b block_limit) (onward (read_blocks (limits b c n) b 0 0 r) ended) (refused over_limit)
    (proper_onward (read_blocks (limits b c n) b 0 0 r) ended (proper_blocks (limits b c n) b 0 0 r) proper_ended) (omega arith))
