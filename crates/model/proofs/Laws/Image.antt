-- A script that was written reads back, and an image that was read is written as it was. Assumes nothing.
use Rattle.std.specs.Prelude.{◌≡◌, ltb, leb}
use Rattle.std.proofs.Math.Path.{refl, ap, subst}
use Rattle.std.proofs.Common.{sym, ◌∙◌}
use Rattle.std.proofs.Math.Bool.{cond}
use Rattle.std.proofs.Math.Option.{Option, none, some}
use mathlib.Core.List.{List, [], ◌∷◌, ◌++◌, append_assoc, append-nil}
use Prim.Native.Nat.{ℕ, zero, suc, ◌+◌, ◌≤◌, ◌<◌}
use native.Mathlib.Omega.{arith}
use borrow.Author.Tests.{ltb-true, lt-ltb, leb-true, le-leb}
use Rattle.std.proofs.Math.ListN.{length}
use Rattle.model.specs.Limits.{block_limit, command_limit, node_limit, depth_limit, wide}
use Rattle.model.specs.Refusal.{over_limit, no_such_link}
use Rattle.model.specs.Reading.{got, refused, onward, number, word}
use Rattle.model.specs.Expr.{Expr, size}
use Rattle.model.specs.Script.{Command, return, goto, set_variable, set_other, if_else, end_if, other_command, Block, placeholder, code, data_block, command_nodes, block_nodes, block_commands}
use Rattle.model.specs.Image.{expr_image, command_image, commands_image, link_image, block_image, blocks_image, image, Limits, limits, read_block_no, link_of, read_link, read_term, set_of, command_of, read_command, read_commands, read_code, block_of, read_block, read_blocks, ended, read_within, read_image}
use Rattle.model.proofs.Laws.Reading.{split, refused≢got, got_value, got_rest, along, passed, read_word, write_number, number_low}
use Rattle.model.proofs.Laws.ImageExpr.{FitsTerm, read_expr_lem, was_expr}

-- ---- scripts that an image can hold

unfoldable pub FitsLink : ℕ → Option ℕ → Type 0
FitsLink m none = Unit
FitsLink m (some k) = k < m

module _ (l : Limits) where
  unfoldable pub FitsCommand : ℕ → Command → Type 0
  FitsCommand n return = Unit
  FitsCommand n (goto k) = k < l.blocks
  FitsCommand n (set_variable t v) = FitsTerm l.nodes depth_limit n t × FitsTerm l.nodes depth_limit (n + size t) v
  FitsCommand n (set_other v) = FitsTerm l.nodes depth_limit n v
  FitsCommand n (if_else e k) = FitsTerm l.nodes depth_limit n e × (k < l.blocks)
  FitsCommand n (end_if k) = k < l.blocks
  FitsCommand n other_command = Unit

  unfoldable pub FitsCommands : ℕ → List Command → Type 0
  FitsCommands n [] = Unit
  FitsCommands n (c ∷ cs) = FitsCommand n c × FitsCommands (n + command_nodes c) cs

  unfoldable pub FitsBlock : ℕ → ℕ → Block → Type 0
  FitsBlock m n placeholder = Unit
  FitsBlock m n (code cs x y) = (m + length cs ≤ l.commands) × FitsCommands n cs × FitsLink l.blocks x × FitsLink l.blocks y
  FitsBlock m n data_block = Unit

  unfoldable pub FitsBlocks : ℕ → ℕ → List Block → Type 0
  FitsBlocks m n [] = Unit
  FitsBlocks m n (b ∷ bs) = FitsBlock m n b × FitsBlocks (m + block_commands b) (n + block_nodes b) bs

-- a script of at most c commands and n nodes
unfoldable pub FitsScript : ℕ → ℕ → List Block → Type 0
FitsScript c n bs = (length bs ≤ block_limit) × FitsBlocks (limits (length bs) c n) 0 0 bs

-- ---- what was written reads back

pub read_block_no_lem : (m k : ℕ) (s : List ℕ) → m ≤ block_limit → k < m → read_block_no m (word k ++ s) ≡ got k s
unfolding read_block_no
read_block_no_lem m k s w h = rw (read_word wide k s (omega arith) (omega arith), lt-ltb k m h)

pub read_link_lem : (m : ℕ) (x : Option ℕ) (s : List ℕ) → m ≤ block_limit → FitsLink m x → read_link m (link_image x ++ s) ≡ got x s
unfolding read_link link_image link_of FitsLink
read_link_lem m none s w f = rw (read_word wide 0 s (omega arith) (omega arith))
read_link_lem m (some k) s w f = rw (read_word wide (suc k) s (omega arith) (omega arith), lt-ltb k m f)

module _ (l : Limits) (w : l.blocks ≤ block_limit) (w' : l.commands < wide) where
  pub read_term_lem : (n : ℕ) (e : Expr) (s : List ℕ) → FitsTerm l.nodes depth_limit n e → read_term l n (expr_image e ++ s) ≡ got e s
  unfolding read_term
  read_term_lem n e s h = read_expr_lem l.nodes depth_limit n e s h.fit h.room

  pub read_command_lem : (n : ℕ) (c : Command) (s : List ℕ) → FitsCommand l n c → read_command l n (command_image c ++ s) ≡ got c s
  unfolding read_command command_image FitsCommand command_of set_of
  read_command_lem n return s f = rw (read_word 6 0 s (omega arith) (omega arith))
  read_command_lem n (goto k) s f = rw (append_assoc, read_word 6 1 (word k ++ s) (omega arith) (omega arith), read_block_no_lem l.blocks k s w f)
  read_command_lem n (set_variable t v) s f =
      rw (
        append_assoc,
        append_assoc,
        append_assoc,
        read_word 6 2 (word 0 ++ (expr_image t ++ (expr_image v ++ s))) (omega arith) (omega arith),
        read_word 2 0 (expr_image t ++ (expr_image v ++ s)) (omega arith) (omega arith),
        read_term_lem n t (expr_image v ++ s) f.0,
        read_term_lem (n + size t) v s f.1,
      )
  read_command_lem n (set_other v) s f =
      rw (
        append_assoc,
        append_assoc,
        read_word 6 2 (word 1 ++ (expr_image v ++ s)) (omega arith) (omega arith),
        read_word 2 1 (expr_image v ++ s) (omega arith) (omega arith),
        read_term_lem n v s f,
      )
  read_command_lem n (if_else e k) s f =
      rw (append_assoc, append_assoc, read_word 6 3 (expr_image e ++ (word k ++ s)) (omega arith) (omega arith), read_term_lem n e (word k ++ s) f.0, read_block_no_lem l.blocks k s w f.1)
  read_command_lem n (end_if k) s f = rw (append_assoc, read_word 6 4 (word k ++ s) (omega arith) (omega arith), read_block_no_lem l.blocks k s w f)
  read_command_lem n other_command s f = rw (read_word 6 5 s (omega arith) (omega arith))

  pub read_commands_lem : (n : ℕ) (cs : List Command) (s : List ℕ) → FitsCommands l n cs → read_commands l (length cs) n (commands_image cs ++ s) ≡ got cs s
  unfolding read_commands commands_image FitsCommands
  read_commands_lem n [] s f = refl
  read_commands_lem n (c ∷ cs) s f =
      rw (append_assoc, read_command_lem n c (commands_image cs ++ s) f.0, read_commands_lem (n + command_nodes c) cs s f.1)

  pub read_block_lem : (m n : ℕ) (b : Block) (s : List ℕ) → FitsBlock l m n b → read_block l m n (block_image b ++ s) ≡ got b s
  unfolding read_block block_image FitsBlock block_of read_code
  read_block_lem m n placeholder s f = rw (read_word 3 0 s (omega arith) (omega arith))
  read_block_lem m n (code cs x y) s f =
      let h = f.0 in
      let t = commands_image cs ++ (link_image x ++ (link_image y ++ s)) in
      rw (
        append_assoc,
        append_assoc,
        append_assoc,
        append_assoc,
        read_word 3 1 (word (length cs) ++ t) (omega arith) (omega arith),
        read_word wide (length cs) t (omega arith) (omega arith),
        le-leb (m + length cs) l.commands h,
        read_commands_lem n cs (link_image x ++ (link_image y ++ s)) f.1,
        read_link_lem l.blocks x (link_image y ++ s) w f.2,
        read_link_lem l.blocks y s w f.3,
      )
  read_block_lem m n data_block s f = rw (read_word 3 2 s (omega arith) (omega arith))

  pub read_blocks_lem : (m n : ℕ) (bs : List Block) (s : List ℕ) → FitsBlocks l m n bs → read_blocks l (length bs) m n (blocks_image bs ++ s) ≡ got bs s
  unfolding read_blocks blocks_image FitsBlocks
  read_blocks_lem m n [] s f = refl
  read_blocks_lem m n (b ∷ bs) s f =
      rw (append_assoc, read_block_lem m n b (blocks_image bs ++ s) f.0, read_blocks_lem (m + block_commands b) (n + block_nodes b) bs s f.1)

-- a script that was written and is read again has the same blocks
pub read_image_lem : (c n : ℕ) (bs : List Block) → c < wide → FitsScript c n bs → read_within c n (image bs) ≡ got bs []
unfolding read_within image FitsScript ended
read_image_lem c n bs w f =
    let h = f.0 in
    let e : read_blocks (limits (length bs) c n) (length bs) 0 0 (blocks_image bs) ≡ got bs []
    = rw append-nil at (read_blocks_lem (limits (length bs) c n) h w 0 0 bs [] f.1) in
    rw (read_word wide (length bs) (blocks_image bs) (omega arith) (omega arith), le-leb (length bs) block_limit h, e)

-- ---- what was read is written as it was, and could be written

-- s is the writing w of x, before r, and P holds of x
pub record Said {A : Type 0} (w : A → List ℕ) (P : A → Type 0) (s : List ℕ) (x : A) (r : List ℕ) : Type 0 where
  pub bytes : s ≡ w x ++ r
  pub fits : P x

pub said_number : (m : ℕ) (s : List ℕ) (k : ℕ) (r : List ℕ) → number m s ≡ got k r → Said word (λ k. k < m) s k r
said_number m s k r p = record { bytes = write_number m s k r p; fits = number_low m s k r p }

pub said_block_no : (m : ℕ) (s : List ℕ) (k : ℕ) (r : List ℕ) → read_block_no m s ≡ got k r → Said word (λ k. k < m) s k r
unfolding read_block_no
said_block_no m s k r p =
    let q = split (number wide s) (λ k r. cond (ltb k m) (got k r) (refused no_such_link)) p in
    let t = passed (ltb q.value m) (got q.value q.rest) no_such_link k r q.then in
    along (λ k r. Said word (λ k. k < m) s k r) t.1
    (record { bytes = write_number wide s q.value q.rest q.first; fits = ltb-true q.value m t.0 })

pub said_link_of : (m k : ℕ) (s : List ℕ) (x : Option ℕ) (r : List ℕ) → link_of m k s ≡ got x r → Said link_image (FitsLink m) (word k ++ s) x r
unfolding link_of link_image FitsLink
said_link_of m zero s x r p = along (λ x r. Said link_image (FitsLink m) (word 0 ++ s) x r) p (record { bytes = refl; fits = tt })
said_link_of m (suc k) s x r p =
    let t = passed (ltb k m) (got (some k) s) no_such_link x r p in
    along (λ x r. Said link_image (FitsLink m) (word (suc k) ++ s) x r) t.1 (record { bytes = refl; fits = ltb-true k m t.0 })

pub said_link : (m : ℕ) (s : List ℕ) (x : Option ℕ) (r : List ℕ) → read_link m s ≡ got x r → Said link_image (FitsLink m) s x r
unfolding read_link
said_link m s x r p =
    let q = split (number wide s) (λ k r. link_of m k r) p in
    rw (write_number wide s q.value q.rest q.first) (said_link_of m q.value q.rest x r q.then)

-- the bytes of a block and of blocks, from those of their parts
code_bytes : (cs : List Command) (x y : Option ℕ) (s s₁ s₂ r : List ℕ) → s ≡ commands_image cs ++ s₁ → s₁ ≡ link_image x ++ s₂ → s₂ ≡ link_image y ++ r
    → word 1 ++ (word (length cs) ++ s) ≡ block_image (code cs x y) ++ r
unfolding block_image
code_bytes cs x y s s₁ s₂ r p q u = rw (append_assoc, append_assoc, append_assoc, append_assoc, p, q, u)

blocks_bytes : (b : Block) (bs : List Block) (s t r : List ℕ) → s ≡ block_image b ++ t → t ≡ blocks_image bs ++ r → s ≡ blocks_image (b ∷ bs) ++ r
unfolding blocks_image
blocks_bytes b bs s t r p q = rw (append_assoc, p, q)

image_bytes : (bs : List Block) (k : ℕ) (s t r : List ℕ) → s ≡ word k ++ t → length bs ≡ k → t ≡ blocks_image bs ++ r → r ≡ [] → s ≡ image bs
unfolding image
image_bytes bs k s t r p q u e = rw (p, q, u, e, append-nil)

module _ (l : Limits) where
  pub said_term : (n : ℕ) (s : List ℕ) (e : Expr) (r : List ℕ) → read_term l n s ≡ got e r → Said expr_image (FitsTerm l.nodes depth_limit n) s e r
  unfolding read_term
  said_term n s e r p = let a = was_expr l.nodes depth_limit n s e r p in record { bytes = a.bytes; fits = a.holds }

  pub said_set : (n k : ℕ) (s : List ℕ) (c : Command) (r : List ℕ) → k < 2 → set_of l n k s ≡ got c r → Said command_image (FitsCommand l n) (word 2 ++ (word k ++ s)) c r
  unfolding set_of command_image FitsCommand
  said_set n zero s c r h p =
      let q = split (read_term l n s) _ p in
      let q' = split (read_term l (n + size q.value) q.rest) _ q.then in
      let a = said_term n s q.value q.rest q.first in
      let b = said_term (n + size q.value) q.rest q'.value q'.rest q'.first in
      along (λ c r. Said command_image (FitsCommand l n) (word 2 ++ (word 0 ++ s)) c r) q'.then
      (record {
        bytes = rw (append_assoc, append_assoc, append_assoc) (ap (λ (t : List ℕ). word 2 ++ (word 0 ++ t)) (a.bytes ∙ ap (λ (t : List ℕ). expr_image q.value ++ t) b.bytes));
        fits = (a.fits, b.fits);
      })
  said_set n (suc zero) s c r h p =
      let q = split (read_term l n s) _ p in
      let a = said_term n s q.value q.rest q.first in
      along (λ c r. Said command_image (FitsCommand l n) (word 2 ++ (word 1 ++ s)) c r) q.then
      (record { bytes = rw (append_assoc, append_assoc) (ap (λ (t : List ℕ). word 2 ++ (word 1 ++ t)) a.bytes); fits = a.fits })
  said_set n (suc (suc k)) s c r h p = absurd (omega arith)

  pub said_command_of : (n k : ℕ) (s : List ℕ) (c : Command) (r : List ℕ) → k < 6 → command_of l n k s ≡ got c r → Said command_image (FitsCommand l n) (word k ++ s) c r
  unfolding command_of command_image FitsCommand
  said_command_of n zero s c r h p = along (λ c r. Said command_image (FitsCommand l n) (word 0 ++ s) c r) p (record { bytes = refl; fits = tt })
  said_command_of n (suc zero) s c r h p =
      let q = split (read_block_no l.blocks s) (λ k r. got (goto k) r) p in
      let a = said_block_no l.blocks s q.value q.rest q.first in
      along (λ c r. Said command_image (FitsCommand l n) (word 1 ++ s) c r) q.then
      (record { bytes = rw append_assoc (ap (λ (t : List ℕ). word 1 ++ t) a.bytes); fits = a.fits })
  said_command_of n (suc (suc zero)) s c r h p =
      let q = split (number 2 s) (λ k r. set_of l n k r) p in
      let a = said_number 2 s q.value q.rest q.first in
      rw a.bytes (said_set n q.value q.rest c r a.fits q.then)
  said_command_of n (suc (suc (suc zero))) s c r h p =
      let q = split (read_term l n s) _ p in
      let q' = split (read_block_no l.blocks q.rest) (λ k u. got (if_else q.value k) u) q.then in
      let a = said_term n s q.value q.rest q.first in
      let b = said_block_no l.blocks q.rest q'.value q'.rest q'.first in
      along (λ c r. Said command_image (FitsCommand l n) (word 3 ++ s) c r) q'.then
      (record {
        bytes = rw (append_assoc, append_assoc) (ap (λ (t : List ℕ). word 3 ++ t) (a.bytes ∙ ap (λ (t : List ℕ). expr_image q.value ++ t) b.bytes));
        fits = (a.fits, b.fits);
      })
  said_command_of n (suc (suc (suc (suc zero)))) s c r h p =
      let q = split (read_block_no l.blocks s) (λ k r. got (end_if k) r) p in
      let a = said_block_no l.blocks s q.value q.rest q.first in
      along (λ c r. Said command_image (FitsCommand l n) (word 4 ++ s) c r) q.then
      (record { bytes = rw append_assoc (ap (λ (t : List ℕ). word 4 ++ t) a.bytes); fits = a.fits })
  said_command_of n (suc (suc (suc (suc (suc zero))))) s c r h p = along (λ c r. Said command_image (FitsCommand l n) (word 5 ++ s) c r) p (record { bytes = refl; fits = tt })
  said_command_of n (suc (suc (suc (suc (suc (suc k)))))) s c r h p = absurd (omega arith)

  pub said_command : (n : ℕ) (s : List ℕ) (c : Command) (r : List ℕ) → read_command l n s ≡ got c r → Said command_image (FitsCommand l n) s c r
  unfolding read_command
  said_command n s c r p =
      let q = split (number 6 s) (λ k r. command_of l n k r) p in
      let a = said_number 6 s q.value q.rest q.first in
      rw a.bytes (said_command_of n q.value q.rest c r a.fits q.then)

  -- a list of as many as were asked for
  pub said_commands : (c n : ℕ) (s : List ℕ) (cs : List Command) (r : List ℕ) → read_commands l c n s ≡ got cs r → Said commands_image (λ cs. (length cs ≡ c) × FitsCommands l n cs) s cs r
  unfolding read_commands commands_image FitsCommands
  said_commands zero n s cs r p = along (λ cs r. Said commands_image (λ cs. (length cs ≡ 0) × FitsCommands l n cs) s cs r) p (record { bytes = refl; fits = (refl, tt) })
  said_commands (suc c) n s cs r p =
      let q = split (read_command l n s) _ p in
      let q' = split (read_commands l c (n + command_nodes q.value) q.rest) (λ xs u. got (q.value ∷ xs) u) q.then in
      let a = said_command n s q.value q.rest q.first in
      let b = said_commands c (n + command_nodes q.value) q.rest q'.value q'.rest q'.first in
      along (λ cs r. Said commands_image (λ cs. (length cs ≡ suc c) × FitsCommands l n cs) s cs r) q'.then
      (record {
        bytes = rw append_assoc (a.bytes ∙ ap (λ (t : List ℕ). command_image q.value ++ t) b.bytes);
        fits = (ap suc b.fits.0, (a.fits, b.fits.1));
      })

  pub said_code : (m n c : ℕ) (s : List ℕ) (b : Block) (r : List ℕ) → m + c ≤ l.commands → read_code l n c s ≡ got b r → Said block_image (FitsBlock l m n) (word 1 ++ (word c ++ s)) b r
  unfolding read_code block_image FitsBlock
  said_code m n c s b r h p =
      let q = split (read_commands l c n s) _ p in
      let q' = split (read_link l.blocks q.rest) _ q.then in
      let q'' = split (read_link l.blocks q'.rest) (λ y u. got (code q.value q'.value y) u) q'.then in
      let d = said_commands c n s q.value q.rest q.first in
      let e = said_link l.blocks q.rest q'.value q'.rest q'.first in
      let f = said_link l.blocks q'.rest q''.value q''.rest q''.first in
      let len = d.fits.0 in
      along (λ b r. Said block_image (FitsBlock l m n) (word 1 ++ (word c ++ s)) b r) q''.then
      (record {
        bytes = subst (λ (k : ℕ). word 1 ++ (word k ++ s) ≡ block_image (code q.value q'.value q''.value) ++ q''.rest) len
            (code_bytes q.value q'.value q''.value s q.rest q'.rest q''.rest d.bytes e.bytes f.bytes);
        fits = (omega arith, d.fits.1, e.fits, f.fits);
      })

  pub said_block_of : (m n k : ℕ) (s : List ℕ) (b : Block) (r : List ℕ) → k < 3 → block_of l m n k s ≡ got b r → Said block_image (FitsBlock l m n) (word k ++ s) b r
  unfolding block_of block_image FitsBlock
  said_block_of m n zero s b r h p = along (λ b r. Said block_image (FitsBlock l m n) (word 0 ++ s) b r) p (record { bytes = refl; fits = tt })
  said_block_of m n (suc zero) s b r h p =
      let q = split (number wide s) (λ c r. cond (leb (m + c) l.commands) (read_code l n c r) (refused over_limit)) p in
      let t = passed (leb (m + q.value) l.commands) (read_code l n q.value q.rest) over_limit b r q.then in
      rw (write_number wide s q.value q.rest q.first) (said_code m n q.value q.rest b r (leb-true (m + q.value) l.commands t.0) t.1)
  said_block_of m n (suc (suc zero)) s b r h p = along (λ b r. Said block_image (FitsBlock l m n) (word 2 ++ s) b r) p (record { bytes = refl; fits = tt })
  said_block_of m n (suc (suc (suc k))) s b r h p = absurd (omega arith)

  pub said_block : (m n : ℕ) (s : List ℕ) (b : Block) (r : List ℕ) → read_block l m n s ≡ got b r → Said block_image (FitsBlock l m n) s b r
  unfolding read_block
  said_block m n s b r p =
      let q = split (number 3 s) (λ k r. block_of l m n k r) p in
      let a = said_number 3 s q.value q.rest q.first in
      rw a.bytes (said_block_of m n q.value q.rest b r a.fits q.then)

  pub said_blocks : (b m n : ℕ) (s : List ℕ) (bs : List Block) (r : List ℕ) → read_blocks l b m n s ≡ got bs r → Said blocks_image (λ bs. (length bs ≡ b) × FitsBlocks l m n bs) s bs r
  unfolding read_blocks blocks_image FitsBlocks
  said_blocks zero m n s bs r p = along (λ bs r. Said blocks_image (λ bs. (length bs ≡ 0) × FitsBlocks l m n bs) s bs r) p (record { bytes = refl; fits = (refl, tt) })
  said_blocks (suc b) m n s bs r p =
      let q = split (read_block l m n s) _ p in
      let q' = split (read_blocks l b (m + block_commands q.value) (n + block_nodes q.value) q.rest) (λ xs u. got (q.value ∷ xs) u) q.then in
      let a = said_block m n s q.value q.rest q.first in
      let d = said_blocks b (m + block_commands q.value) (n + block_nodes q.value) q.rest q'.value q'.rest q'.first in
      along (λ bs r. Said blocks_image (λ bs. (length bs ≡ suc b) × FitsBlocks l m n bs) s bs r) q'.then
      (record {
        bytes = blocks_bytes q.value q'.value s q.rest q'.rest a.bytes d.bytes;
        fits = (ap suc d.fits.0, (a.fits, d.fits.1));
      })

pub ended_all : (bs : List Block) (t : List ℕ) (xs : List Block) (r : List ℕ) → ended bs t ≡ got xs r → (t ≡ []) × (bs ≡ xs) × (r ≡ [])
unfolding ended
ended_all bs [] xs r p = (refl, got_value p, sym (got_rest p))
ended_all bs (x ∷ t) xs r p = absurd (refused≢got p)

pub record WasImage (c n : ℕ) (s : List ℕ) (bs : List Block) (r : List ℕ) : Type 0 where
  pub bytes : s ≡ image bs
  pub fits : FitsScript c n bs
  pub all : r ≡ []

-- an image that is accepted, written again, is the same
pub write_image : (c n : ℕ) (s : List ℕ) (bs : List Block) (r : List ℕ) → read_within c n s ≡ got bs r → WasImage c n s bs r
unfolding read_within image FitsScript
write_image c n s bs r p =
    let q = split (number wide s) (λ b r. cond (leb b block_limit) (onward (read_blocks (limits b c n) b 0 0 r) ended) (refused over_limit)) p in
    let t = passed (leb q.value block_limit) (onward (read_blocks (limits q.value c n) q.value 0 0 q.rest) ended) over_limit bs r q.then in
    let u = split (read_blocks (limits q.value c n) q.value 0 0 q.rest) ended t.1 in
    let e = ended_all u.value u.rest bs r u.then in
    let d = said_blocks (limits q.value c n) q.value 0 0 q.rest u.value u.rest u.first in
    let len = d.fits.0 in
    let low = leb-true q.value block_limit t.0 in
    let fit : FitsBlocks (limits (length u.value) c n) 0 0 u.value = rw len d.fits.1 in
    record {
      bytes = subst (λ (xs : List Block). s ≡ image xs) e.1 (image_bytes u.value q.value s q.rest u.rest (write_number wide s q.value q.rest q.first) len d.bytes e.0);
      fits = subst (λ (xs : List Block). (length xs ≤ block_limit) × FitsBlocks (limits (length xs) c n) 0 0 xs) e.1 (omega arith, fit);
      all = e.2;
    }

-- ---- both round trips, of whatever is accepted

-- an accepted image, read and written again, is the same bytes
pub same_bytes : (s : List ℕ) (bs : List Block) (r : List ℕ) → read_image s ≡ got bs r → image bs ≡ s
unfolding read_image
same_bytes s bs r p = sym (write_image command_limit node_limit s bs r p).bytes

-- a script that fits, written and read again, has the same blocks
pub same_blocks : (bs : List Block) → FitsScript command_limit node_limit bs → read_image (image bs) ≡ got bs []
unfolding read_image
same_blocks bs f = read_image_lem command_limit node_limit bs (omega arith) f

-- what was accepted fits
pub image_fits : (s : List ℕ) (bs : List Block) (r : List ℕ) → read_image s ≡ got bs r → FitsScript command_limit node_limit bs
unfolding read_image
image_fits s bs r p = (write_image command_limit node_limit s bs r p).fits
