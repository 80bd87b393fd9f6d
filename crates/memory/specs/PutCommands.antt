-- Commands that were appended: those below stay as they were, and what was appended reads back. Assumes nothing.
use Rattle.std.specs.Prelude.{◌≡◌, get_or, set, length}
use Rattle.std.proofs.Math.Path.{refl, ap, ap₂, subst}
use Rattle.std.proofs.Common.{sym, ◌∙◌, arith, length-set, get_or-set_same, get_or-set_other}
use mathlib.Core.List.{List, [], ◌∷◌}
use Prim.Native.Nat.{ℕ, zero, suc, ◌+◌, ◌-◌, ◌*◌, ◌≤◌, ◌<◌}
use Rattle.model.specs.Limits.{node_limit, command_limit}
use Rattle.model.specs.Expr.{Expr}
use Rattle.model.specs.Script.{Command, return, goto, set_variable, set_other, if_else, end_if, other_command, command_nodes, commands_nodes}
use Rattle.model.specs.Memory.{Nodes, Coded, tree, command_word, set_in, command_by, command_in, commands_in, put_expr, command_words, push_command, put_command, put_commands}
use Rattle.memory.specs.Sound.{Root, SoundTarget, SoundBy, SoundCommand, SoundCommands, LongNodes, LongCoded}
use Rattle.memory.specs.RecordLaws.{from_first}
use Rattle.memory.specs.PutNodes.{Grown, grown_same, grown_then, tree_frame, root_frame, PutTree, put_tree}

-- ---- more commands and nodes, and those that were there are as they were

pub record GrownCoded (s t : Coded) : Type 0 where
  pub nodes : Grown s.nodes t.nodes
  pub count : s.count ≤ t.count
  pub words : (j : ℕ) → j < 4 * s.count → get_or t.words j 0 ≡ get_or s.words j 0

pub coded_same : (s : Coded) → GrownCoded s s
coded_same s = record { nodes = grown_same s.nodes; count = omega arith; words = λ j h. refl }

pub coded_then : (s t u : Coded) → GrownCoded s t → GrownCoded t u → GrownCoded s u
coded_then s t u g h =
    let gc = g.count in
    let hc = h.count in
    record {
      nodes = grown_then s.nodes t.nodes u.nodes g.nodes h.nodes;
      count = omega arith;
      words = λ j l. h.words j (omega arith) ∙ g.words j l;
    }

module _ (s t : Coded) (g : GrownCoded s t) where
  -- an expression in its new place
  root_moved : (i j : ℕ) → j ≡ i → Root s.nodes i → Root t.nodes j
  root_moved i j e r = subst (Root t.nodes) (sym e) (root_frame s.nodes t.nodes g.nodes i r)

  tree_moved : (i j : ℕ) → j ≡ i → Root s.nodes i → tree t.nodes j ≡ tree s.nodes i
  tree_moved i j e r = ap (tree t.nodes) e ∙ tree_frame s.nodes t.nodes g.nodes i r.low

  word_frame : (c j : ℕ) → c < s.count → j < 4 → command_word t c j ≡ command_word s c j
  word_frame c j h l = g.words (4 * c + j) (omega arith)

  target_frame : (c k : ℕ) → c < s.count → SoundTarget s c k → SoundTarget t c k
  unfolding SoundTarget
  target_frame c zero h r = root_moved (command_word s c 1) (command_word t c 1) (word_frame c 1 h (omega arith)) r
  target_frame c (suc zero) h r = tt
  target_frame c (suc (suc k)) h r = absurd r

  by_frame : (c k : ℕ) → c < s.count → SoundBy s c k → SoundBy t c k
  unfolding SoundBy
  by_frame c zero h r = tt
  by_frame c (suc zero) h r = tt
  by_frame c (suc (suc zero)) h r = (
    subst (SoundTarget t c) (sym (word_frame c 3 h (omega arith))) (target_frame c (command_word s c 3) h r.0),
    root_moved (command_word s c 2) (command_word t c 2) (word_frame c 2 h (omega arith)) r.1,
  )
  by_frame c (suc (suc (suc zero))) h r = root_moved (command_word s c 1) (command_word t c 1) (word_frame c 1 h (omega arith)) r
  by_frame c (suc (suc (suc (suc zero)))) h r = tt
  by_frame c (suc (suc (suc (suc (suc zero))))) h r = tt
  by_frame c (suc (suc (suc (suc (suc (suc k)))))) h r = absurd r

  set_moved : (c k : ℕ) → c < s.count → SoundTarget s c k → Root s.nodes (command_word s c 2) → set_in t c k ≡ set_in s c k
  unfolding set_in SoundTarget
  set_moved c zero h r q =
      ap₂ set_variable (tree_moved (command_word s c 1) (command_word t c 1) (word_frame c 1 h (omega arith)) r) (tree_moved (command_word s c 2) (command_word t c 2) (word_frame c 2 h (omega arith)) q)
  set_moved c (suc k) h r q = ap set_other (tree_moved (command_word s c 2) (command_word t c 2) (word_frame c 2 h (omega arith)) q)

  by_moved : (c k : ℕ) → c < s.count → SoundBy s c k → command_by t c k ≡ command_by s c k
  unfolding command_by SoundBy
  by_moved c zero h r = refl
  by_moved c (suc zero) h r = ap goto (word_frame c 3 h (omega arith))
  by_moved c (suc (suc zero)) h r = ap (set_in t c) (word_frame c 3 h (omega arith)) ∙ set_moved c (command_word s c 3) h r.0 r.1
  by_moved c (suc (suc (suc zero))) h r = ap₂ if_else (tree_moved (command_word s c 1) (command_word t c 1) (word_frame c 1 h (omega arith)) r) (word_frame c 3 h (omega arith))
  by_moved c (suc (suc (suc (suc zero)))) h r = ap end_if (word_frame c 3 h (omega arith))
  by_moved c (suc (suc (suc (suc (suc k))))) h r = refl

  -- a command that was there
  pub command_frame : (c : ℕ) → SoundCommand s c → SoundCommand t c
  command_frame c r =
      let h = r.low in
      let gc = g.count in
      record { low = omega arith; by = subst (SoundBy t c) (sym (word_frame c 0 h (omega arith))) (by_frame c (command_word s c 0) h r.by) }

  pub command_stays : (c : ℕ) → SoundCommand s c → command_in t c ≡ command_in s c
  unfolding command_in
  command_stays c r = let h = r.low in ap (command_by t c) (word_frame c 0 h (omega arith)) ∙ by_moved c (command_word s c 0) h r.by

  pub commands_stay : (h f : ℕ) → SoundCommands s h f → commands_in t h f ≡ commands_in s h f
  unfolding commands_in
  commands_stay zero f r = refl
  commands_stay (suc h) f r = ap₂ (λ (x : Command) (xs : List Command). x ∷ xs) (command_stays f (r f (omega arith) (omega arith))) (commands_stay h (suc f) (λ c l u. r c (omega arith) (omega arith)))

-- ---- one command more

-- what stands in it
pub record FourWords (w : List ℕ) (c k a b t : ℕ) : Type 0 where
  pub code : get_or w (4 * c + 0) 0 ≡ k
  pub first : get_or w (4 * c + 1) 0 ≡ a
  pub second : get_or w (4 * c + 2) 0 ≡ b
  pub block : get_or w (4 * c + 3) 0 ≡ t

module _ (w : List ℕ) (c k a b t : ℕ) where
  pub words_long : length (command_words w c k a b t) ≡ length w
  words_long =
      length-set (set (set (set w (4 * c) k) (4 * c + 1) a) (4 * c + 2) b) (4 * c + 3) t
      ∙ length-set (set (set w (4 * c) k) (4 * c + 1) a) (4 * c + 2) b
      ∙ length-set (set w (4 * c) k) (4 * c + 1) a
      ∙ length-set w (4 * c) k

  pub words_below : (j : ℕ) → j < 4 * c → get_or (command_words w c k a b t) j 0 ≡ get_or w j 0
  words_below j h =
      get_or-set_other (set (set (set w (4 * c) k) (4 * c + 1) a) (4 * c + 2) b) (4 * c + 3) j t 0 (omega arith)
      ∙ get_or-set_other (set (set w (4 * c) k) (4 * c + 1) a) (4 * c + 2) j b 0 (omega arith)
      ∙ get_or-set_other (set w (4 * c) k) (4 * c + 1) j a 0 (omega arith)
      ∙ get_or-set_other w (4 * c) j k 0 (omega arith)

  pub words_hold : 4 * c + 3 < length w → FourWords (command_words w c k a b t) c k a b t
  words_hold h =
      let i = 4 * c in
      let x = length-set w (4 * c) k in
      let y = length-set (set w (4 * c) k) (4 * c + 1) a in
      let z = length-set (set (set w (4 * c) k) (4 * c + 1) a) (4 * c + 2) b in
      let e : 4 * c + 0 ≡ 4 * c = omega arith in
      record {
        code = ap (λ (j : ℕ). get_or (command_words w c k a b t) j 0) e
            ∙ get_or-set_other (set (set (set w i k) (i + 1) a) (i + 2) b) (i + 3) i t 0 (omega arith)
            ∙ get_or-set_other (set (set w i k) (i + 1) a) (i + 2) i b 0 (omega arith)
            ∙ get_or-set_other (set w i k) (i + 1) i a 0 (omega arith)
            ∙ get_or-set_same w i k 0 (omega arith);
        first = get_or-set_other (set (set (set w i k) (i + 1) a) (i + 2) b) (i + 3) (i + 1) t 0 (omega arith)
            ∙ get_or-set_other (set (set w i k) (i + 1) a) (i + 2) (i + 1) b 0 (omega arith)
            ∙ get_or-set_same (set w i k) (i + 1) a 0 (omega arith);
        second = get_or-set_other (set (set (set w i k) (i + 1) a) (i + 2) b) (i + 3) (i + 2) t 0 (omega arith)
            ∙ get_or-set_same (set (set w i k) (i + 1) a) (i + 2) b 0 (omega arith);
        block = get_or-set_same (set (set (set w i k) (i + 1) a) (i + 2) b) (i + 3) t 0 (omega arith);
      }

pub record PutOne (s : Coded) (x : Command) (t : Coded) : Type 0 where
  pub counted : t.count ≡ s.count + 1
  pub nodes_counted : t.nodes.count ≡ s.nodes.count + command_nodes x
  pub grown : GrownCoded s t
  pub long : LongCoded t
  pub sound : SoundCommand t s.count
  pub is : command_in t s.count ≡ x

-- from the words that were pushed, over nodes that may have grown
module _ (s : Coded) (ns : Nodes) (k a b t : ℕ) (x : Command) where
  pushed_one : LongCoded s → LongNodes ns → Grown s.nodes ns → s.count < command_limit → ns.count ≡ s.nodes.count + command_nodes x
      → (FourWords (push_command s ns k a b t).words s.count k a b t → SoundBy (push_command s ns k a b t) s.count k × (command_by (push_command s ns k a b t) s.count k ≡ x))
      → PutOne s x (push_command s ns k a b t)
  unfolding command_in
  pushed_one g l n h c f =
      let u = push_command s ns k a b t in
      let d = s.count in
      let gw = g.words in
      let w = words_hold s.words d k a b t (omega arith) in
      let r = f w in
      record {
        counted = refl;
        nodes_counted = c;
        grown = record { nodes = n; count = omega arith; words = words_below s.words d k a b t };
        long = record { nodes = l; words = words_long s.words d k a b t ∙ gw };
        sound = record { low = omega arith; by = subst (SoundBy u d) (sym w.code) r.0 };
        is = ap (command_by u d) w.code ∙ r.1;
      }

-- commands with expressions, from their words
set_made : (co : Coded) (c i j : ℕ) (y e : Expr) → command_word co c 1 ≡ i → command_word co c 2 ≡ j → command_word co c 3 ≡ 0
    → Root co.nodes i → Root co.nodes j → tree co.nodes i ≡ y → tree co.nodes j ≡ e → SoundBy co c 2 × (command_by co c 2 ≡ set_variable y e)
unfolding SoundBy SoundTarget command_by set_in
set_made co c i j y e a b t r q m n = (
  (subst (SoundTarget co c) (sym t) (subst (Root co.nodes) (sym a) r), subst (Root co.nodes) (sym b) q),
  ap (set_in co c) t ∙ ap₂ set_variable (ap (tree co.nodes) a ∙ m) (ap (tree co.nodes) b ∙ n),
)

other_made : (co : Coded) (c j : ℕ) (e : Expr) → command_word co c 2 ≡ j → command_word co c 3 ≡ 1
    → Root co.nodes j → tree co.nodes j ≡ e → SoundBy co c 2 × (command_by co c 2 ≡ set_other e)
unfolding SoundBy SoundTarget command_by set_in
other_made co c j e b t q n = ((subst (SoundTarget co c) (sym t) tt, subst (Root co.nodes) (sym b) q), ap (set_in co c) t ∙ ap set_other (ap (tree co.nodes) b ∙ n))

if_made : (co : Coded) (c i k : ℕ) (e : Expr) → command_word co c 1 ≡ i → command_word co c 3 ≡ k
    → Root co.nodes i → tree co.nodes i ≡ e → SoundBy co c 3 × (command_by co c 3 ≡ if_else e k)
unfolding SoundBy command_by
if_made co c i k e a t r m = (subst (Root co.nodes) (sym a) r, ap₂ if_else (ap (tree co.nodes) a ∙ m) t)

-- the root of an expression that was put
put_root : (s : Nodes) (e : Expr) (t : Nodes) → PutTree s e t → Root t (t.count - 1)
put_root s e t p = let m = p.more in record { low = omega arith; well = p.well }

pub put_command_lem : (s : Coded) (x : Command) → LongCoded s → s.count < command_limit → s.nodes.count + command_nodes x ≤ node_limit → PutOne s x (put_command s x)
unfolding put_command command_nodes SoundBy command_by
put_command_lem s return g h l = pushed_one s s.nodes 0 0 0 0 return g g.nodes (grown_same s.nodes) h (omega arith) (λ w. (tt, refl))
put_command_lem s (goto k) g h l = pushed_one s s.nodes 1 0 0 k (goto k) g g.nodes (grown_same s.nodes) h (omega arith) (λ w. (tt, ap goto w.block))
put_command_lem s (set_variable y e) g h l =
    let n = s.nodes in
    let u = put_expr n y in
    let v = put_expr u e in
    let p = put_tree n y g.nodes (omega arith) in
    let pc = p.counted in
    let pr = put_root n y u p in
    let q = put_tree u e p.long (omega arith) in
    let qc = q.counted in
    pushed_one s v 2 (u.count - 1) (v.count - 1) 0 (set_variable y e) g q.long (grown_then n u v p.grown q.grown) h (omega arith)
    (λ w. set_made (push_command s v 2 (u.count - 1) (v.count - 1) 0) s.count (u.count - 1) (v.count - 1) y e w.first w.second w.block
    (root_frame u v q.grown (u.count - 1) pr) (put_root u e v q) (tree_frame u v q.grown (u.count - 1) pr.low ∙ p.is) q.is)
put_command_lem s (set_other e) g h l =
    let n = s.nodes in
    let u = put_expr n e in
    let p = put_tree n e g.nodes l in
    pushed_one s u 2 0 (u.count - 1) 1 (set_other e) g p.long p.grown h p.counted
    (λ w. other_made (push_command s u 2 0 (u.count - 1) 1) s.count (u.count - 1) e w.second w.block (put_root n e u p) p.is)
put_command_lem s (if_else e k) g h l =
    let n = s.nodes in
    let u = put_expr n e in
    let p = put_tree n e g.nodes l in
    pushed_one s u 3 (u.count - 1) 0 k (if_else e k) g p.long p.grown h p.counted
    (λ w. if_made (push_command s u 3 (u.count - 1) 0 k) s.count (u.count - 1) k e w.first w.block (put_root n e u p) p.is)
put_command_lem s (end_if k) g h l = pushed_one s s.nodes 4 0 0 k (end_if k) g g.nodes (grown_same s.nodes) h (omega arith) (λ w. (tt, ap end_if w.block))
put_command_lem s other_command g h l = pushed_one s s.nodes 5 0 0 0 other_command g g.nodes (grown_same s.nodes) h (omega arith) (λ w. (tt, refl))

-- ---- commands more

pub record PutAll (s : Coded) (xs : List Command) (t : Coded) : Type 0 where
  pub counted : t.count ≡ s.count + length xs
  pub nodes_counted : t.nodes.count ≡ s.nodes.count + commands_nodes xs
  pub grown : GrownCoded s t
  pub long : LongCoded t
  pub sound : SoundCommands t (length xs) s.count
  pub are : commands_in t (length xs) s.count ≡ xs

none_put : (s : Coded) → LongCoded s → PutAll s [] s
unfolding commands_nodes commands_in
none_put s g = record { counted = omega arith; nodes_counted = omega arith; grown = coded_same s; long = g; sound = λ c a b. absurd (omega arith); are = refl }

cons_put : (s u t : Coded) (x : Command) (xs : List Command) → PutOne s x u → PutAll u xs t → PutAll s (x ∷ xs) t
unfolding commands_nodes commands_in
cons_put s u t x xs p q =
    let pc = p.counted in
    let pn = p.nodes_counted in
    let qc = q.counted in
    let qn = q.nodes_counted in
    let e : u.count ≡ suc s.count = omega arith in
    record {
      counted = omega arith;
      nodes_counted = omega arith;
      grown = coded_then s u t p.grown q.grown;
      long = q.long;
      sound = from_first (SoundCommand t) (length xs) s.count (command_frame u t q.grown s.count p.sound) (subst (SoundCommands t (length xs)) e q.sound);
      are = ap₂ (λ (y : Command) (ys : List Command). y ∷ ys) (command_stays u t q.grown s.count p.sound ∙ p.is) (ap (commands_in t (length xs)) (sym e) ∙ q.are);
    }

pub put_commands_lem : (s : Coded) (xs : List Command) → LongCoded s → s.count + length xs ≤ command_limit → s.nodes.count + commands_nodes xs ≤ node_limit → PutAll s xs (put_commands s xs)
unfolding put_commands commands_nodes
put_commands_lem s [] g h l = none_put s g
put_commands_lem s (x ∷ xs) g h l =
    let p = put_command_lem s x g (omega arith) (omega arith) in
    let pc = p.counted in
    let pn = p.nodes_counted in
    cons_put s (put_command s x) (put_commands (put_command s x) xs) x xs p (put_commands_lem (put_command s x) xs p.long (omega arith) (omega arith))
