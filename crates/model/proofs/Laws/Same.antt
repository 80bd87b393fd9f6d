-- The image of any blocks, also of such as do not fit, reads as those blocks if it reads at all. Assumes nothing.
use Rattle.std.specs.Prelude.{◌≡◌, ltb, leb}
use Rattle.std.proofs.Math.Path.{ap}
use Rattle.std.proofs.Common.{sym, ◌∙◌}
use Rattle.std.proofs.Math.Bool.{cond}
use Rattle.std.proofs.Math.Option.{Option, none, some}
use mathlib.Core.List.{List, [], ◌∷◌, ◌++◌, append_assoc, append-nil}
use Prim.Native.Nat.{ℕ, zero, suc, ◌+◌}
use Rattle.std.proofs.Math.ListN.{length}
use Rattle.model.specs.Limits.{block_limit, depth_limit, wide, wide16}
use Rattle.model.specs.Refusal.{over_limit, no_such_link}
use Rattle.model.specs.Reading.{Answer, got, refused, onward, number, word, zig, zag}
use Rattle.model.specs.Expr.{Expr, two, one, imm16, imm32, other, size}
use Rattle.model.specs.Script.{Command, return, goto, set_variable, set_other, if_else, end_if, other_command, Block, placeholder, code, data_block, command_nodes, block_nodes, block_commands}
use Rattle.model.specs.Image.{code_of, expr_image, command_image, commands_image, link_image, block_image, blocks_image, image, read_kind, read_operands, read_expr, Limits, limits, read_block_no, link_of, read_link, read_term, set_of, command_of, read_command, read_commands, read_code, block_of, read_block, read_blocks, ended, read_within}
use Rattle.model.specs.declared.Kind.TheVariants.{Two, One, Imm16, Imm32, Other}
use Rattle.model.proofs.Laws.Reading.{passed, onto, only, same_number, zag_zig}
use Rattle.model.proofs.Laws.ImageExpr.{FitsExpr, read_kind_lem, was_expr}
use Rattle.model.proofs.Laws.Image.{ended_all}

-- ---- expressions

module _ (l : ℕ) where
  -- a level down, where the operands are read by f
  same_operands : (f : ℕ → List ℕ → Answer Expr) → ((n : ℕ) (e : Expr) (s : List ℕ) (v : Expr) (r : List ℕ) → f n (expr_image e ++ s) ≡ got v r → (v ≡ e) × (r ≡ s))
      → (n : ℕ) (e : Expr) (s : List ℕ) (v : Expr) (r : List ℕ)
      → onward (read_kind (expr_image e ++ s)) (λ k t. cond (ltb n l) (read_operands f n k t) (refused over_limit)) ≡ got v r → (v ≡ e) × (r ≡ s)
  unfolding read_operands expr_image code_of
  same_operands f ih n (two o a b) s v r p =
      let t = expr_image a ++ (expr_image b ++ s) in
      let q = rw (append_assoc, append_assoc, read_kind_lem (Two o) t) at p in
      let u = (passed (ltb n l) (read_operands f n (Two o) t) over_limit v r q).1 in
      let w = onto (f (suc n) t) _ (ih (suc n) a (expr_image b ++ s)) u in
      only (onto (f (suc n + size a) (expr_image b ++ s)) (λ y t. got (two o a y) t) (ih (suc n + size a) b s) w)
  same_operands f ih n (one o a) s v r p =
      let q = rw (append_assoc, read_kind_lem (One o) (expr_image a ++ s)) at p in
      let u = (passed (ltb n l) (read_operands f n (One o) (expr_image a ++ s)) over_limit v r q).1 in
      only (onto (f (suc n) (expr_image a ++ s)) (λ y t. got (one o y) t) (ih (suc n) a s) u)
  same_operands f ih n (imm16 z) s v r p =
      let q = rw (append_assoc, read_kind_lem Imm16 (word (zig z) ++ s)) at p in
      let u = (passed (ltb n l) (read_operands f n Imm16 (word (zig z) ++ s)) over_limit v r q).1 in
      let w = only (onto (number wide16 (word (zig z) ++ s)) (λ y t. got (imm16 (zag y)) t) (same_number wide16 (zig z) s) u) in
      (w.0 ∙ ap imm16 (zag_zig z), w.1)
  same_operands f ih n (imm32 z) s v r p =
      let q = rw (append_assoc, read_kind_lem Imm32 (word (zig z) ++ s)) at p in
      let u = (passed (ltb n l) (read_operands f n Imm32 (word (zig z) ++ s)) over_limit v r q).1 in
      let w = only (onto (number wide (word (zig z) ++ s)) (λ y t. got (imm32 (zag y)) t) (same_number wide (zig z) s) u) in
      (w.0 ∙ ap imm32 (zag_zig z), w.1)
  same_operands f ih n other s v r p =
      let q = rw (read_kind_lem Other s) at p in
      only (passed (ltb n l) (got other s) over_limit v r q).1

  pub same_expr : (d n : ℕ) (e : Expr) (s : List ℕ) (v : Expr) (r : List ℕ) → read_expr l d n (expr_image e ++ s) ≡ got v r → (v ≡ e) × (r ≡ s)
  unfolding read_expr FitsExpr
  same_expr zero n e s v r p = absurd (was_expr l zero n (expr_image e ++ s) v r p).holds.fit
  same_expr (suc d) n e s v r p = same_operands (read_expr l d) (same_expr d) n e s v r p

-- ---- links

pub same_block_no : (m k : ℕ) (s : List ℕ) (v : ℕ) (r : List ℕ) → read_block_no m (word k ++ s) ≡ got v r → (v ≡ k) × (r ≡ s)
unfolding read_block_no
same_block_no m k s v r p =
    let q = onto (number wide (word k ++ s)) (λ k r. cond (ltb k m) (got k r) (refused no_such_link)) (same_number wide k s) p in
    only (passed (ltb k m) (got k s) no_such_link v r q).1

pub same_link : (m : ℕ) (x : Option ℕ) (s : List ℕ) (v : Option ℕ) (r : List ℕ) → read_link m (link_image x ++ s) ≡ got v r → (v ≡ x) × (r ≡ s)
unfolding read_link link_image link_of
same_link m none s v r p = only (onto (number wide (word 0 ++ s)) (λ k r. link_of m k r) (same_number wide 0 s) p)
same_link m (some k) s v r p =
    let q = onto (number wide (word (suc k) ++ s)) (λ k r. link_of m k r) (same_number wide (suc k) s) p in
    only (passed (ltb k m) (got (some k) s) no_such_link v r q).1

-- ---- commands and blocks

module _ (l : Limits) where
  pub same_term : (n : ℕ) (e : Expr) (s : List ℕ) (v : Expr) (r : List ℕ) → read_term l n (expr_image e ++ s) ≡ got v r → (v ≡ e) × (r ≡ s)
  unfolding read_term
  same_term n e s v r p = same_expr l.nodes depth_limit n e s v r p

  pub same_command : (n : ℕ) (c : Command) (s : List ℕ) (v : Command) (r : List ℕ) → read_command l n (command_image c ++ s) ≡ got v r → (v ≡ c) × (r ≡ s)
  unfolding read_command command_image command_of set_of
  same_command n return s v r p = only (onto (number 6 (word 0 ++ s)) (λ k r. command_of l n k r) (same_number 6 0 s) p)
  same_command n (goto k) s v r p =
      let q = onto (number 6 (word 1 ++ (word k ++ s))) (λ k r. command_of l n k r) (same_number 6 1 (word k ++ s)) (rw append_assoc at p) in
      only (onto (read_block_no l.blocks (word k ++ s)) (λ k r. got (goto k) r) (same_block_no l.blocks k s) q)
  same_command n (set_variable t e) s v r p =
      let u = expr_image t ++ (expr_image e ++ s) in
      let q = onto (number 6 (word 2 ++ (word 0 ++ u))) (λ k r. command_of l n k r) (same_number 6 2 (word 0 ++ u)) (rw (append_assoc, append_assoc, append_assoc) at p) in
      let q₁ = onto (number 2 (word 0 ++ u)) (λ k r. set_of l n k r) (same_number 2 0 u) q in
      let q₂ = onto (read_term l n u) _ (same_term n t (expr_image e ++ s)) q₁ in
      only (onto (read_term l (n + size t) (expr_image e ++ s)) (λ x u. got (set_variable t x) u) (same_term (n + size t) e s) q₂)
  same_command n (set_other e) s v r p =
      let u = expr_image e ++ s in
      let q = onto (number 6 (word 2 ++ (word 1 ++ u))) (λ k r. command_of l n k r) (same_number 6 2 (word 1 ++ u)) (rw (append_assoc, append_assoc) at p) in
      let q₁ = onto (number 2 (word 1 ++ u)) (λ k r. set_of l n k r) (same_number 2 1 u) q in
      only (onto (read_term l n u) (λ x u. got (set_other x) u) (same_term n e s) q₁)
  same_command n (if_else e k) s v r p =
      let u = expr_image e ++ (word k ++ s) in
      let q = onto (number 6 (word 3 ++ u)) (λ k r. command_of l n k r) (same_number 6 3 u) (rw (append_assoc, append_assoc) at p) in
      let q₁ = onto (read_term l n u) _ (same_term n e (word k ++ s)) q in
      only (onto (read_block_no l.blocks (word k ++ s)) (λ x u. got (if_else e x) u) (same_block_no l.blocks k s) q₁)
  same_command n (end_if k) s v r p =
      let q = onto (number 6 (word 4 ++ (word k ++ s))) (λ k r. command_of l n k r) (same_number 6 4 (word k ++ s)) (rw append_assoc at p) in
      only (onto (read_block_no l.blocks (word k ++ s)) (λ k r. got (end_if k) r) (same_block_no l.blocks k s) q)
  same_command n other_command s v r p = only (onto (number 6 (word 5 ++ s)) (λ k r. command_of l n k r) (same_number 6 5 s) p)

  pub same_commands : (n : ℕ) (cs : List Command) (s : List ℕ) (v : List Command) (r : List ℕ) → read_commands l (length cs) n (commands_image cs ++ s) ≡ got v r → (v ≡ cs) × (r ≡ s)
  unfolding read_commands commands_image
  same_commands n [] s v r p = only p
  same_commands n (c ∷ cs) s v r p =
      let q = onto (read_command l n (command_image c ++ (commands_image cs ++ s))) _ (same_command n c (commands_image cs ++ s)) (rw append_assoc at p) in
      only (onto (read_commands l (length cs) (n + command_nodes c) (commands_image cs ++ s)) (λ xs u. got (c ∷ xs) u) (same_commands (n + command_nodes c) cs s) q)

  pub same_block : (m n : ℕ) (b : Block) (s : List ℕ) (v : Block) (r : List ℕ) → read_block l m n (block_image b ++ s) ≡ got v r → (v ≡ b) × (r ≡ s)
  unfolding read_block block_image block_of read_code
  same_block m n placeholder s v r p = only (onto (number 3 (word 0 ++ s)) (λ k r. block_of l m n k r) (same_number 3 0 s) p)
  same_block m n (code cs x y) s v r p =
      let s₂ = link_image y ++ s in
      let s₁ = link_image x ++ s₂ in
      let t = commands_image cs ++ s₁ in
      let q = onto (number 3 (word 1 ++ (word (length cs) ++ t))) (λ k r. block_of l m n k r) (same_number 3 1 (word (length cs) ++ t)) (rw (append_assoc, append_assoc, append_assoc, append_assoc) at p) in
      let q₁ = onto (number wide (word (length cs) ++ t)) (λ c r. cond (leb (m + c) l.commands) (read_code l n c r) (refused over_limit)) (same_number wide (length cs) t) q in
      let q₂ = (passed (leb (m + length cs) l.commands) (read_code l n (length cs) t) over_limit v r q₁).1 in
      let q₃ = onto (read_commands l (length cs) n t) _ (same_commands n cs s₁) q₂ in
      let q₄ = onto (read_link l.blocks s₁) _ (same_link l.blocks x s₂) q₃ in
      only (onto (read_link l.blocks s₂) (λ z u. got (code cs x z) u) (same_link l.blocks y s) q₄)
  same_block m n data_block s v r p = only (onto (number 3 (word 2 ++ s)) (λ k r. block_of l m n k r) (same_number 3 2 s) p)

  pub same_blocks_read : (m n : ℕ) (bs : List Block) (s : List ℕ) (v : List Block) (r : List ℕ) → read_blocks l (length bs) m n (blocks_image bs ++ s) ≡ got v r → (v ≡ bs) × (r ≡ s)
  unfolding read_blocks blocks_image
  same_blocks_read m n [] s v r p = only p
  same_blocks_read m n (b ∷ bs) s v r p =
      let q = onto (read_block l m n (block_image b ++ (blocks_image bs ++ s))) _ (same_block m n b (blocks_image bs ++ s)) (rw append_assoc at p) in
      only (onto (read_blocks l (length bs) (m + block_commands b) (n + block_nodes b) (blocks_image bs ++ s)) (λ xs u. got (b ∷ xs) u) (same_blocks_read (m + block_commands b) (n + block_nodes b) bs s) q)

-- ---- the image

pub same_read : (c n : ℕ) (bs bs' : List Block) (r : List ℕ) → read_within c n (image bs) ≡ got bs' r → bs' ≡ bs
unfolding read_within image
same_read c n bs bs' r p =
    let k = limits (length bs) c n in
    let q = onto (number wide (word (length bs) ++ blocks_image bs)) (λ b r. cond (leb b block_limit) (onward (read_blocks (limits b c n) b 0 0 r) ended) (refused over_limit)) (same_number wide (length bs) (blocks_image bs)) p in
    let t = (passed (leb (length bs) block_limit) (onward (read_blocks k (length bs) 0 0 (blocks_image bs)) ended) over_limit bs' r q).1 in
    let u : onward (read_blocks k (length bs) 0 0 (blocks_image bs ++ [])) ended ≡ got bs' r = rw append-nil t in
    let w = onto (read_blocks k (length bs) 0 0 (blocks_image bs ++ [])) ended (same_blocks_read k 0 0 bs []) u in
    sym (ended_all bs [] bs' r w).1
