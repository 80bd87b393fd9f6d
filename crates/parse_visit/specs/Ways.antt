-- The conditions of the blocks after a block: the block's own joined with its last If, negated for the else (01, Parser: condition joined only through If (negated for the else), otherwise none). Assumes nothing.
use Rattle.std.specs.Prelude.{◌≡◌, refl, Bool, true, false, List, ℕ, zero, suc, ◌+◌, ◌*◌, ◌-◌, ◌≤◌, ◌<◌, ℤ, length}
use Rattle.std.proofs.Common.{sym, ap, ◌∙◌, subst, arith}
use Rattle.std.proofs.Math.Option.{Option, some}
use Rattle.model.specs.Limits.{wide16}
use Rattle.model.specs.Expr.{Expr, negate, size}
use Rattle.model.specs.Memory.{Nodes, nodes_in, tree}
use Rattle.model.specs.Parse.{join}
use Rattle.model.specs.declared.Link.{Link}
use Rattle.expr.specs.Tree.{tree_below, below_in}
use Rattle.parse_keys.specs.Sheets.{known_sheet, knows}
use Rattle.parse_keys.specs.Tables.{Grown}
use Rattle.parse_keys.specs.declared.Known.{Known}
use Rattle.parse_conditions.specs.Gathered.{gathered}
use Rattle.parse_conditions.specs.Gathers.{gathered_size}
use Rattle.parse_conditions.specs.Listing.{Listing, keys_of, used_of, Place, Added, NoRoom}
use Rattle.parse_conditions.specs.ListingLaws.{listing_length}
use Rattle.parse_scan.specs.Block.{on_next_of, on_else_of}
use Rattle.parse_visit.specs.State.{no_room, answer_in, one_cell_more, Stored, stored_in, Holding, Roomy}
use Rattle.parse_visit.specs.Joins.{with_cell, with_if, if_next, if_else_lem, if_same, IfRead, if_joined}
use Rattle.parse_visit.specs.declared.Walk.{Walk}
use Rattle.parse_visit.specs.declared.Visited.{Visited}

-- how far keys and list have come, as read_condition takes it
abbrev pub place_of : Walk → ℕ
place_of w = w.keyed * wide16 + w.used

-- the last If, 0 for none or 1 + its root, lies below the kept count and has at most n nodes
abbrev pub IfFits : Nodes → ℕ → ℕ → Type 0
IfFits ns last n = (i : ℕ) → last ≡ suc i → (i < ns.count) × (size (tree ns i) ≤ n)

-- ---- one If read and joined to condition c as a cell more

pub record IfAdded (ws : List ℕ) (vs : List ℤ) (known : Known) (b i c : ℕ) (w : Walk) (ks ls cells ks' kd' cs' ls' cells' : List ℕ) (r : Walk) : Type 0 where
  pub place : ℕ
  pub added : Added ws vs known b i (λ h e. gathered h e false) (place_of w) ks ls ks' kd' cs' ls' place
  pub rows : 3 * w.cells + 3 ≤ length cells
  pub cell : cells' ≡ with_cell cells w.cells c w.used (used_of place)
  pub walk : r ≡ one_cell_more w (used_of place) (keys_of place)

pub record Joined (ws : List ℕ) (vs : List ℤ) (known : Known) (b i c : ℕ) (w : Walk) (ks ls cells ks' kd' cs' ls' cells' : List ℕ) (r : Walk) : Type 0 where
  pub full : answer_in r.outcome ≡ no_room → 3 * w.cells + 3 ≤ length cells → NoRoom ws vs known b i (λ h e. gathered h e false) (place_of w) ks ls
  pub read : (answer_in r.outcome ≡ no_room → ⊥) → IfAdded ws vs known b i c w ks ls cells ks' kd' cs' ls' cells' r
  pub limit : r.limit ≡ w.limit

pub holds_place : {known : Known} {t : Stored} {w : Walk} {f : ℕ → Option Expr} → Holding known t w f → Place t.keys t.kids t.companions t.list (place_of w)
holds_place {t = t} {w = w} h =
    let e : keys_of (place_of w) ≡ w.keyed = omega (arith, h.chains.held, h.sized.small) in
    record { tables = rw e h.tables; used = omega (arith, h.chains.held, h.sized.small); small = h.sized.small }

-- ---- what a block leaves beside its slots

pub record Left (ns : Nodes) (known : Known) (t : Stored) (w : Walk) (c last : ℕ) (f : ℕ → Option Expr) (t' : Stored) (r : Visited) : Type 0 where
  pub conditions : ℕ → Option Expr
  pub limit : r.walk.limit ≡ w.limit
  pub answer : (answer_in r.walk.outcome ≡ no_room → ⊥) → answer_in r.walk.outcome ≡ answer_in w.outcome
  pub holding : answer_in r.walk.outcome ≡ 0 → Holding known t' r.walk conditions
  pub spent : (n : ℕ) → IfFits ns last n → answer_in r.walk.outcome ≡ 0 → 3 * r.walk.used + w.cells ≤ 3 * w.used + n + r.walk.cells
  pub room : (n : ℕ) → IfFits ns last n → Roomy t w n → answer_in r.walk.outcome ≡ no_room → ⊥
  pub on_next : (n : ℕ) → IfFits ns last n → answer_in r.walk.outcome ≡ 0 → (r.next.0 ≡ 0 → ⊥) → conditions r.then.0 ≡ on_next_of ns (f c) last
  pub on_else : (n : ℕ) → IfFits ns last n → answer_in r.walk.outcome ≡ 0 → (r.next.0 ≡ 0 → ⊥) → conditions r.otherwise.0 ≡ on_else_of ns (f c) last
  pub same : (k : ℕ) → k ≤ 2 * w.cells → conditions k ≡ f k
  pub more : (answer_in r.walk.outcome ≡ no_room → ⊥) → w.cells ≤ r.walk.cells
  pub most : (answer_in r.walk.outcome ≡ no_room → ⊥) → r.walk.cells ≤ w.cells + 1
  pub low_next : (answer_in r.walk.outcome ≡ no_room → ⊥) → r.then.0 ≤ 2 * r.walk.cells
  pub low_else : (answer_in r.walk.outcome ≡ no_room → ⊥) → r.otherwise.0 ≤ 2 * r.walk.cells

-- whether the last If is read
pub record ReadsOn (answer last next : ℕ) (r : Bool) : Type 0 where
  pub yes : r ≡ true → (answer ≡ 0) × ((last ≡ 0 → ⊥) × (next ≡ 0 → ⊥))
  pub no : r ≡ false → answer ≡ 0 → (next ≡ 0 → ⊥) → last ≡ 0

-- whatever is marked
abbrev pub GoesOn : List ℕ → List ℤ → ℕ → Known → List ℕ → List ℕ → List ℕ → List ℕ → List ℕ → Walk → ℕ → ℕ → List ℕ → List ℕ → List ℕ → List ℕ → List ℕ → Visited → Type 0
GoesOn ws vs n known ks kd cs ls cells w c last ks' kd' cs' ls' cells' r =
    (seen : List Bool) (alive : List ℕ) (f : ℕ → Option Expr) → Holding known (stored_in ks kd cs ls seen alive cells) w f → c ≤ 2 * w.cells
    → Left (nodes_in ws vs n) known (stored_in ks kd cs ls seen alive cells) w c last f (stored_in ks' kd' cs' ls' seen alive cells') r

-- nothing is read where there was a refusal, where there is no If, and where there is no next; condition 0 is none
module _ (ns : Nodes) (known : Known) (t : Stored) (w : Walk) (c last : ℕ) (f : ℕ → Option Expr) (hold : Holding known t w f) (fine : answer_in w.outcome ≡ no_room → ⊥) (nx el : Link) where
  pub left_unread : ((answer_in w.outcome ≡ 0) → (nx.0 ≡ 0 → ⊥) → last ≡ 0) → Left ns known t w c last f t (record { walk = w; next = nx; then = record { 0 = 0 }; other = el; otherwise = record { 0 = 0 } })
  left_unread p = record {
    conditions = f;
    limit = refl;
    answer = λ q. refl;
    holding = λ q. hold;
    spent = λ n i q. omega arith;
    room = λ n i r q. fine q;
    on_next = λ n i q d. hold.nothing ∙ rw (p q d);
    on_else = λ n i q d. hold.nothing ∙ rw (p q d);
    same = λ k l. refl;
    more = λ q. omega arith;
    most = λ q. omega arith;
    low_next = λ q. omega arith;
    low_else = λ q. omega arith;
  }

-- an If was read
module _ (ws : List ℕ) (vs : List ℤ) (b : ℕ) (known : Known) (t : Stored) (w : Walk) (c last : ℕ) (f : ℕ → Option Expr) (hold : Holding known t w f) (low : c ≤ 2 * w.cells) (fine : answer_in w.outcome ≡ no_room → ⊥)
    (ks' kd' cs' ls' cells' : List ℕ) (r : Walk) (some-if : last ≡ 0 → ⊥)
    (j : Joined ws vs known b (last - 1) c w t.keys t.list t.cells ks' kd' cs' ls' cells' r) where
  abbrev e : Expr
  e = tree_below (nodes_in ws vs b) b (last - 1)

  in_place : used_of (place_of w) ≡ w.used
  in_place = omega (arith, hold.chains.held, hold.sized.small)

  keys_place : keys_of (place_of w) ≡ w.keyed
  keys_place = omega (arith, hold.chains.held, hold.sized.small)

  module _ (a : IfAdded ws vs known b (last - 1) c w t.keys t.list t.cells ks' kd' cs' ls' cells' r) where
    if_read : IfRead known t w e ks' kd' cs' ls' (keys_of a.place) (used_of a.place)
    if_read =
        let d = a.added in
        record {
          tables = d.place.tables;
          grown = subst (λ k. Grown t.keys k ks' (keys_of a.place)) keys_place d.grown;
          up = omega (arith, d.up, in_place);
          few = omega (arith, d.few, in_place, keys_place);
          fits = d.place.used;
          same = λ i l. d.same i (omega (arith, in_place));
          long = d.long;
          entries = λ h k. subst (λ u. Listing ks' (keys_of a.place) ls' u (gathered h e false) (used_of a.place)) in_place (d.entries h b k);
        }

    holds_after : Holding known (stored_in ks' kd' cs' ls' t.seen t.alive cells') r (with_if f w.cells c e)
    holds_after = rw (a.cell, a.walk) (if_joined known t w f hold e ks' kd' cs' ls' (keys_of a.place) (used_of a.place) if_read c low a.rows)

    count_after : r.cells ≡ w.cells + 1
    count_after = rw a.walk

    spent_after : (n : ℕ) → size e ≤ n → 3 * r.used + w.cells ≤ 3 * w.used + n + r.cells
    spent_after n l =
        let u : r.used ≡ used_of a.place = rw a.walk in
        let k = listing_length ks' (keys_of a.place) ls' w.used (gathered (known_sheet known) e false) (used_of a.place) (if_read.entries (known_sheet known) (knows known)) in
        omega (arith, gathered_size (known_sheet known) e false, count_after)

  e_is : (i : ℕ) → last ≡ suc i → i < b → e ≡ tree (nodes_in ws vs b) i
  e_is i q l = let k : last - 1 ≡ i = omega arith in ap (tree_below (nodes_in ws vs b) b) k ∙ below_in (nodes_in ws vs b) b i l

  abbrev root : ℕ
  root = last - 1

  is_root : last ≡ suc root
  is_root = by last some-if
    where
      by : (l : ℕ) → (l ≡ 0 → ⊥) → l ≡ suc (l - 1)
      by zero d = absurd (d refl)
      by (suc k) d = omega arith

  e_fits : (n : ℕ) → IfFits (nodes_in ws vs b) last n → size e ≤ n
  e_fits n i = let p = i root is_root in omega (arith, ap size (e_is root is_root p.0), p.1)

  next_of : (n : ℕ) → IfFits (nodes_in ws vs b) last n → some (join (f c) e) ≡ on_next_of (nodes_in ws vs b) (f c) last
  next_of n i = let p = (i root is_root).0 in ap (λ x. some (join (f c) x)) (e_is root is_root p) ∙ sym (ap (on_next_of (nodes_in ws vs b) (f c)) is_root)

  else_of : (n : ℕ) → IfFits (nodes_in ws vs b) last n → some (join (f c) (negate e)) ≡ on_else_of (nodes_in ws vs b) (f c) last
  else_of n i = let p = (i root is_root).0 in ap (λ x. some (join (f c) (negate x))) (e_is root is_root p) ∙ sym (ap (on_else_of (nodes_in ws vs b) (f c)) is_root)

  here : answer_in r.outcome ≡ 0 → answer_in r.outcome ≡ no_room → ⊥
  here z q = omega arith

  pub left_joined : (nx el : Link) (th ot : ℕ) → th ≡ 2 * w.cells + 1 → ot ≡ 2 * w.cells + 2
      → Left (nodes_in ws vs b) known t w c last f (stored_in ks' kd' cs' ls' t.seen t.alive cells') (record { walk = r; next = nx; then = record { 0 = th }; other = el; otherwise = record { 0 = ot } })
  left_joined nx el th ot ht ho = record {
    conditions = with_if f w.cells c e;
    limit = j.limit;
    answer = λ q. rw (j.read q).walk;
    holding = λ z. holds_after (j.read (here z));
    spent = λ n i z. spent_after (j.read (here z)) n (e_fits n i);
    room = λ n i g q.
        let k = known_sheet known in
        j.full q g.rows k b (knows known)
        (omega (arith, gathered_size k e false, e_fits n i, g.words, in_place))
        (omega (arith, gathered_size k e false, e_fits n i, g.words, g.keys, keys_place, hold.few));
    on_next = λ n i z d. ap (with_if f w.cells c e) ht ∙ if_next f w.cells c e ∙ next_of n i;
    on_else = λ n i z d. ap (with_if f w.cells c e) ho ∙ if_else_lem f w.cells c e ∙ else_of n i;
    same = if_same f w.cells c e;
    more = λ q. omega (arith, count_after (j.read q));
    most = λ q. omega (arith, count_after (j.read q));
    low_next = λ q. omega (arith, count_after (j.read q));
    low_else = λ q. omega (arith, count_after (j.read q));
  }
