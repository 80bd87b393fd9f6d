-- Marks of a run of blocks (02, A.2). Assumes nothing.
use Rattle.std.specs.Prelude.{◌≡◌, List, ℕ, ◌++◌, ◌+◌, ◌-◌, ◌≤◌, length, take, drop, replicate}
use Rattle.std.proofs.Common.{sym, ap, ap₂, ◌∙◌, append_assoc, arith}
use Rattle.std.proofs.lemmas.List.{drop-drop, length-replicate}
use Rattle.std.proofs.lemmas.List.Edits.{sets, sets-eq}
use borrow.Rule.Slice.PartMut.{put_mid, mid_of, mid_len}

-- the blocks from a up to e, filled with one mark
pub filled : (l ys : List ℕ) (a e mark : ℕ) → a ≤ e → e ≤ length l → ys ≡ replicate (length (mid_of a (e - a) l)) mark → put_mid a (e - a) l ys ≡ sets l a (replicate (e - a) mark)
filled l ys a e mark h k y =
    let vs = replicate (e - a) mark in
    let long : length vs ≡ e - a = length-replicate (e - a) mark in
    let i : a + (e - a) ≡ a + length vs = omega arith in
    ap₂ (λ (x z : List ℕ). take a l ++ (x ++ z)) (y ∙ ap (λ n. replicate n mark) (mid_len a e l k)) (drop-drop (e - a) a l ∙ ap (λ n. drop n l) i)
    ∙ sym (append_assoc (take a l) vs _)
    ∙ sym (sets-eq vs l a (omega arith))
