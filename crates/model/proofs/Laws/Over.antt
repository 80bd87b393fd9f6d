-- Sound blocks that hold more commands or nodes than they may are refused with 3. Assumes nothing.
use Rattle.std.specs.Prelude.{◌≡◌}
use mathlib.Core.List.{List, [], ◌∷◌, ◌++◌, append_assoc, append-nil}
use Prim.Native.Nat.{ℕ, zero, suc, ◌+◌, ◌≤◌, ◌<◌}
use native.Mathlib.Omega.{arith}
use Rattle.std.proofs.Math.Decide.{dec_le}
use borrow.Author.Tests.{lt-ltb, le-ltb, le-leb, lt-leb}
use Rattle.std.proofs.Math.ListN.{length}
use Rattle.model.specs.Limits.{block_limit, depth_limit, wide}
use Rattle.model.specs.Refusal.{over_limit}
use Rattle.model.specs.Reading.{refused, word, zig}
use Rattle.model.specs.Expr.{Expr, two, one, imm16, imm32, other, size}
use Rattle.model.specs.Script.{Command, return, goto, set_variable, set_other, if_else, end_if, other_command, Block, placeholder, code, data_block, command_nodes, commands_nodes, block_nodes, block_commands, sum_of}
use Rattle.model.specs.Image.{code_of, expr_image, command_image, commands_image, link_image, block_image, blocks_image, image, read_operands, read_expr, Limits, limits, read_term, set_of, command_of, read_command, read_commands, read_code, block_of, read_block, read_blocks, read_within}
use Rattle.model.specs.declared.Op2.{Op2}
use Rattle.model.specs.declared.Op1.{Op1}
use Rattle.model.specs.declared.Kind.TheVariants.{Two, One, Imm16, Imm32, Other}
use Rattle.model.proofs.Laws.Reading.{read_word}
use Rattle.model.proofs.Laws.ImageExpr.{FitsExpr, read_kind_lem, read_expr_lem}
use Rattle.model.proofs.Laws.Image.{FitsBlock, read_term_lem, read_command_lem, read_block_lem}
use Rattle.model.proofs.Laws.Sound.{SoundCommand, SoundCommands, SoundBlock, SoundBlocks, command_fits_lem, block_fits}

module _ (l : ℕ) where
  -- nothing has room any more
  full_expr : (d n : ℕ) (e : Expr) (s : List ℕ) → l ≤ n → read_expr l (suc d) n (expr_image e ++ s) ≡ refused over_limit
  unfolding read_expr expr_image code_of
  full_expr d n (two o a b) s h = rw (append_assoc, append_assoc, read_kind_lem (Two o) (expr_image a ++ (expr_image b ++ s)), le-ltb n l h)
  full_expr d n (one o a) s h = rw (append_assoc, read_kind_lem (One o) (expr_image a ++ s), le-ltb n l h)
  full_expr d n (imm16 z) s h = rw (append_assoc, read_kind_lem Imm16 (word (zig z) ++ s), le-ltb n l h)
  full_expr d n (imm32 z) s h = rw (append_assoc, read_kind_lem Imm32 (word (zig z) ++ s), le-ltb n l h)
  full_expr d n other s h = rw (read_kind_lem Other s, le-ltb n l h)

  over_two : (d n : ℕ) (o : Op2) (a b : Expr) (s : List ℕ) → FitsExpr d a
      → (l < suc n + size a → read_expr l d (suc n) (expr_image a ++ (expr_image b ++ s)) ≡ refused over_limit)
      → (l < suc n + size a + size b → read_expr l d (suc n + size a) (expr_image b ++ s) ≡ refused over_limit)
      → l < n + size (two o a b) → Dec (l ≤ n) → Dec (suc n + size a ≤ l) → read_expr l (suc d) n (expr_image (two o a b) ++ s) ≡ refused over_limit
  unfolding read_expr expr_image read_operands size code_of
  over_two d n o a b s f p q h (yes k) j = full_expr d n (two o a b) s k
  over_two d n o a b s f p q h (no k) (no j) =
      rw (append_assoc, append_assoc, read_kind_lem (Two o) (expr_image a ++ (expr_image b ++ s)), lt-ltb n l (omega arith), p (omega arith))
  over_two d n o a b s f p q h (no k) (yes j) =
      rw (append_assoc, append_assoc, read_kind_lem (Two o) (expr_image a ++ (expr_image b ++ s)), lt-ltb n l (omega arith), read_expr_lem l d (suc n) a (expr_image b ++ s) f j, q (omega arith))

  over_one : (d n : ℕ) (o : Op1) (a : Expr) (s : List ℕ) → (l < suc n + size a → read_expr l d (suc n) (expr_image a ++ s) ≡ refused over_limit)
      → l < n + size (one o a) → Dec (l ≤ n) → read_expr l (suc d) n (expr_image (one o a) ++ s) ≡ refused over_limit
  unfolding read_expr expr_image read_operands size code_of
  over_one d n o a s p h (yes k) = full_expr d n (one o a) s k
  over_one d n o a s p h (no k) = rw (append_assoc, read_kind_lem (One o) (expr_image a ++ s), lt-ltb n l (omega arith), p (omega arith))

  over_expr : (d n : ℕ) (e : Expr) (s : List ℕ) → FitsExpr d e → l < n + size e → read_expr l d n (expr_image e ++ s) ≡ refused over_limit
  unfolding FitsExpr size
  over_expr zero n e s f h = absurd f
  over_expr (suc d) n (two o a b) s f h =
      over_two d n o a b s f.0 (over_expr d (suc n) a (expr_image b ++ s) f.0) (over_expr d (suc n + size a) b s f.1) h (dec_le l n) (dec_le (suc n + size a) l)
  over_expr (suc d) n (one o a) s f h = over_one d n o a s (over_expr d (suc n) a s f) h (dec_le l n)
  over_expr (suc d) n (imm16 z) s f h = full_expr d n (imm16 z) s (omega arith)
  over_expr (suc d) n (imm32 z) s f h = full_expr d n (imm32 z) s (omega arith)
  over_expr (suc d) n other s f h = full_expr d n other s (omega arith)

module _ (l : Limits) (w : l.blocks ≤ block_limit) (w' : l.commands < wide) where
  over_term : (n : ℕ) (e : Expr) (s : List ℕ) → FitsExpr depth_limit e → l.nodes < n + size e → read_term l n (expr_image e ++ s) ≡ refused over_limit
  unfolding read_term
  over_term n e s f h = over_expr l.nodes depth_limit n e s f h

  -- target and value of a Set
  over_pair : (n : ℕ) (t e : Expr) (s : List ℕ) → FitsExpr depth_limit t → FitsExpr depth_limit e → l.nodes < n + (size t + size e) → Dec (n + size t ≤ l.nodes)
      → set_of l n 0 (expr_image t ++ (expr_image e ++ s)) ≡ refused over_limit
  unfolding set_of
  over_pair n t e s f g h (yes k) = rw (read_term_lem l w w' n t (expr_image e ++ s) (record { fit = f; room = k }), over_term (n + size t) e s g (omega arith))
  over_pair n t e s f g h (no k) = rw (over_term n t (expr_image e ++ s) f (omega arith))

  over_command : (n : ℕ) (c : Command) (s : List ℕ) → SoundCommand l.blocks c → n ≤ l.nodes → l.nodes < n + command_nodes c → read_command l n (command_image c ++ s) ≡ refused over_limit
  unfolding read_command command_image command_of set_of SoundCommand command_nodes
  over_command n return s f k h = absurd (omega arith)
  over_command n (goto j) s f k h = absurd (omega arith)
  over_command n (set_variable t e) s f k h =
      rw (
        append_assoc,
        append_assoc,
        append_assoc,
        read_word 6 2 (word 0 ++ (expr_image t ++ (expr_image e ++ s))) (omega arith) (omega arith),
        read_word 2 0 (expr_image t ++ (expr_image e ++ s)) (omega arith) (omega arith),
      )
      (over_pair n t e s f.0 f.1 h (dec_le (n + size t) l.nodes))
  over_command n (set_other e) s f k h =
      rw (append_assoc, append_assoc, read_word 6 2 (word 1 ++ (expr_image e ++ s)) (omega arith) (omega arith), read_word 2 1 (expr_image e ++ s) (omega arith) (omega arith), over_term n e s f h)
  over_command n (if_else e j) s f k h =
      rw (append_assoc, append_assoc, read_word 6 3 (expr_image e ++ (word j ++ s)) (omega arith) (omega arith), over_term n e (word j ++ s) f.0 h)
  over_command n (end_if j) s f k h = absurd (omega arith)
  over_command n other_command s f k h = absurd (omega arith)

  -- the first command has room, or not
  over_next : (n : ℕ) (c : Command) (cs : List Command) (s : List ℕ) → SoundCommand l.blocks c → n ≤ l.nodes
      → (n + command_nodes c ≤ l.nodes → read_commands l (length cs) (n + command_nodes c) (commands_image cs ++ s) ≡ refused over_limit) → Dec (n + command_nodes c ≤ l.nodes)
      → read_commands l (length (c ∷ cs)) n (commands_image (c ∷ cs) ++ s) ≡ refused over_limit
  unfolding read_commands commands_image
  over_next n c cs s f k ih (yes j) = rw (append_assoc, read_command_lem l w w' n c (commands_image cs ++ s) (command_fits_lem l n c f j), ih j)
  over_next n c cs s f k ih (no j) = rw (append_assoc, over_command n c (commands_image cs ++ s) f k (omega arith))

  over_commands : (n : ℕ) (cs : List Command) (s : List ℕ) → SoundCommands l.blocks cs → n ≤ l.nodes → l.nodes < n + commands_nodes cs
      → read_commands l (length cs) n (commands_image cs ++ s) ≡ refused over_limit
  unfolding SoundCommands commands_nodes
  over_commands n [] s f k h = absurd (omega arith)
  over_commands n (c ∷ cs) s f k h =
      over_next n c cs s f.0 k (λ j. over_commands (n + command_nodes c) cs s f.1 j (omega arith)) (dec_le (n + command_nodes c) l.nodes)

  over_block : (m n : ℕ) (b : Block) (s : List ℕ) → SoundBlock l.blocks b → block_commands b < wide → m ≤ l.commands → n ≤ l.nodes
      → (m + block_commands b ≤ l.commands → n + block_nodes b ≤ l.nodes → ⊥) → Dec (m + block_commands b ≤ l.commands) → read_block l m n (block_image b ++ s) ≡ refused over_limit
  unfolding read_block block_image block_of read_code SoundBlock block_nodes block_commands
  over_block m n placeholder s f u i k h j = absurd (h (omega arith) (omega arith))
  over_block m n (code cs x y) s f u i k h (yes j) =
      rw (
        append_assoc,
        append_assoc,
        append_assoc,
        append_assoc,
        read_word 3 1 (word (length cs) ++ (commands_image cs ++ (link_image x ++ (link_image y ++ s)))) (omega arith) (omega arith),
        read_word wide (length cs) (commands_image cs ++ (link_image x ++ (link_image y ++ s))) u u,
        le-leb (m + length cs) l.commands j,
        over_commands n cs (link_image x ++ (link_image y ++ s)) f.0 k (more (dec_le (n + commands_nodes cs) l.nodes)),
      )
    where
      more : Dec (n + commands_nodes cs ≤ l.nodes) → l.nodes < n + commands_nodes cs
      more (yes g) = absurd (h j g)
      more (no g) = omega arith
  over_block m n (code cs x y) s f u i k h (no j) =
      rw (
        append_assoc,
        append_assoc,
        append_assoc,
        append_assoc,
        read_word 3 1 (word (length cs) ++ (commands_image cs ++ (link_image x ++ (link_image y ++ s)))) (omega arith) (omega arith),
        read_word wide (length cs) (commands_image cs ++ (link_image x ++ (link_image y ++ s))) u u,
        lt-leb (m + length cs) l.commands (omega arith),
      )
  over_block m n data_block s f u i k h j = absurd (h (omega arith) (omega arith))

  -- the first block is refused, or read before the others are
  first_over : (m n : ℕ) (b : Block) (bs : List Block) (s : List ℕ) → read_block l m n (block_image b ++ (blocks_image bs ++ s)) ≡ refused over_limit
      → read_blocks l (length (b ∷ bs)) m n (blocks_image (b ∷ bs) ++ s) ≡ refused over_limit
  unfolding read_blocks blocks_image
  first_over m n b bs s p = rw (append_assoc, p)

  next_over : (m n : ℕ) (b : Block) (bs : List Block) (s : List ℕ) → FitsBlock l m n b → read_blocks l (length bs) (m + block_commands b) (n + block_nodes b) (blocks_image bs ++ s) ≡ refused over_limit
      → read_blocks l (length (b ∷ bs)) m n (blocks_image (b ∷ bs) ++ s) ≡ refused over_limit
  unfolding read_blocks blocks_image
  next_over m n b bs s f p = rw (append_assoc, read_block_lem l w w' m n b (blocks_image bs ++ s) f, p)

  over_blocks : (m n : ℕ) (bs : List Block) (s : List ℕ) → SoundBlocks l.blocks bs → sum_of block_commands bs < wide → m ≤ l.commands → n ≤ l.nodes
      → (m + sum_of block_commands bs ≤ l.commands → n + sum_of block_nodes bs ≤ l.nodes → ⊥) → read_blocks l (length bs) m n (blocks_image bs ++ s) ≡ refused over_limit
  unfolding SoundBlocks
  over_blocks m n [] s f u i k h = absurd (h (omega arith) (omega arith))
  over_blocks m n (b ∷ bs) s f u i k h =
      by (λ p q. over_blocks (m + block_commands b) (n + block_nodes b) bs s f.1 (omega arith) p q (λ x y. h (omega arith) (omega arith)))
      (dec_le (m + block_commands b) l.commands) (dec_le (n + block_nodes b) l.nodes)
    where
      here : (m + block_commands b ≤ l.commands → n + block_nodes b ≤ l.nodes → ⊥) → read_blocks l (length (b ∷ bs)) m n (blocks_image (b ∷ bs) ++ s) ≡ refused over_limit
      here g = first_over m n b bs s (over_block m n b (blocks_image bs ++ s) f.0 (omega arith) i k g (dec_le (m + block_commands b) l.commands))

      by : (m + block_commands b ≤ l.commands → n + block_nodes b ≤ l.nodes → read_blocks l (length bs) (m + block_commands b) (n + block_nodes b) (blocks_image bs ++ s) ≡ refused over_limit)
          → Dec (m + block_commands b ≤ l.commands) → Dec (n + block_nodes b ≤ l.nodes) → read_blocks l (length (b ∷ bs)) m n (blocks_image (b ∷ bs) ++ s) ≡ refused over_limit
      by ih (yes p) (yes q) = next_over m n b bs s (block_fits l m n b f.0 p q) (ih p q)
      by ih (yes p) (no q) = here (λ x y. q y)
      by ih (no p) q = here (λ x y. p x)

-- more than c commands or n nodes
pub over_script : (c n : ℕ) (bs : List Block) → c < wide → length bs ≤ block_limit → SoundBlocks (length bs) bs → sum_of block_commands bs < wide
    → (sum_of block_commands bs ≤ c → sum_of block_nodes bs ≤ n → ⊥) → read_within c n (image bs) ≡ refused over_limit
unfolding read_within image
over_script c n bs w few f u h =
    let e : read_blocks (limits (length bs) c n) (length bs) 0 0 (blocks_image bs) ≡ refused over_limit
    = rw append-nil at (over_blocks (limits (length bs) c n) few w 0 0 bs [] f u (omega arith) (omega arith) (λ x y. h (omega arith) (omega arith))) in
    rw (read_word wide (length bs) (blocks_image bs) (omega arith) (omega arith), le-leb (length bs) block_limit few, e)
