-- A code's entry: its key is found, or made where there is room. Assumes nothing.
use mathlib.Core.Path.{◌≡◌, refl, ◌∙◌}
use mathlib.Core.Bool.{Bool, true}
use mathlib.Core.Option.{Option, none, some}
use mathlib.Core.List.{List}
use Prim.Native.Nat.{ℕ, ◌+◌, ◌*◌, ◌/◌, ◌%◌, ◌≤◌, ◌<◌}
use native.Mathlib.Omega.{arith}
use native.Mathlib.Decide.{ℕ_discrete}
use lib.IntN.{ℤ}
use lib.ListN.{get_or, set, length, length-set}
use lib.Seq.{get_or-set_same, get_or-set_other}
use Rattle.model.specs.Requirement.{Requirement}
use Rattle.model.specs.Memory.{nodes_in}
use Rattle.model.specs.Parse.{map_req, signed, parse_requirement}
use Rattle.shop_codes.specs.Codes.{requirement_of}
use Rattle.expr.specs.Tree.{tree_below}
use Rattle.parse_keys.specs.Entries.{odd, turned, entry_req, Valid, Subject, Stand, Leaf}
use Rattle.parse_keys.specs.Turns.{turn_even, turn_odd}
use Rattle.parse_keys.specs.Search.{Room, Free, Is, placed_new}
use Rattle.parse_keys.specs.Reads.{Reading}
use Rattle.parse_keys.specs.Tables.{Companions, Tables, Grown, no_room, Entered, ReadEntry}
use Rattle.parse_keys.specs.Sheets.{known_sheet, knows}
use Rattle.parse_keys.specs.Growth.{grown_same}
use Rattle.parse_keys.specs.declared.Known.{Known}
use Rattle.parse_keys.specs.declared.Word.{Word}
use Rattle.parse_keys.proofs.Codes.{Means}

-- ---- an entry of a key

entry_stand : (ks : List ℕ) (m x i w : ℕ) → Is ks m (x / 2) i → w ≡ 2 * i + x % 2 → Stand ks m w (signed (odd x) (requirement_of (x / 2)))
unfolding entry_req
entry_stand ks m x i w q e =
    let d : w / 2 ≡ i = omega arith in
    let f : w % 2 ≡ x % 2 = omega arith in
    record { valid = record { low = omega (arith, q.some); high = omega (arith, q.most) }; is = rw (d, f, q.code) }

-- no entry is the word for no room
stand_room : (ks kd cs : List ℕ) (m w : ℕ) → Tables ks kd cs m → Valid m w → w ≡ no_room → ⊥
stand_room ks kd cs m w t v e = omega (arith, v.high, t.room, t.small)

entered_by : (ks : List ℕ) (m x i w : ℕ) (ks' kd' cs' : List ℕ) (n : ℕ) → Tables ks' kd' cs' n → Grown ks m ks' n → n ≤ m + 1 → Is ks' n (x / 2) i → w ≡ 2 * i + x % 2
    → Entered x m ks ks' kd' cs' (record { word = w; count = n })
entered_by ks m x i w ks' kd' cs' n t g f q e =
    let s = entry_stand ks' n x i w q e in
    record { tables = t; grown = g; few = f; stand = λ z. s; full = λ z. absurd (stand_room ks' kd' cs' n w t s.valid z) }

module _ (ks kd cs : List ℕ) (m x : ℕ) (t : Tables ks kd cs m) where
  pub entered_there : (i w : ℕ) → Is ks m (x / 2) i → w ≡ 2 * i + x % 2 → Entered x m ks ks kd cs (record { word = w; count = m })
  entered_there i w q e = entered_by ks m x i w ks kd cs m t (grown_same ks m) (omega arith) q e

  pub entered_full : length ks ≤ m + 1 → Entered x m ks ks kd cs (record { word = no_room; count = m })
  entered_full l = record { tables = t; grown = grown_same ks m; few = omega arith; stand = λ z. absurd (z refl); full = λ z. l }

  module _ (n p v w : ℕ) (f : Free ks kd m (x / 2) p) (s : Subject (x / 2)) (e : n ≡ m + 1) (l : n < length ks) where
    room : Room ks kd m
    room = record { few = omega (arith, t.small); keys = omega arith; kids = omega (arith, t.kids) }

    abbrev cs' : List ℕ
    cs' = set (set cs (2 * n) v) (2 * n + 1) w

    paired : v ≡ 2 * m + 3 → w ≡ 2 * m + 2 → Companions cs' (m + 1)
    paired ev ew k u = by (ℕ_discrete k (2 * n + 1)) (ℕ_discrete k (2 * n))
      where
        long : 2 * n + 1 < length (set cs (2 * n) v)
        long = rw (length-set cs (2 * n) v) (omega (arith, t.others))

        by : Dec (k ≡ 2 * n + 1) → Dec (k ≡ 2 * n) → get_or cs' k 0 ≡ turned true k
        by (yes a) b = rw (turn_odd k (omega arith), a, get_or-set_same (set cs (2 * n) v) (2 * n + 1) w 0 long) (omega arith)
        by (no a) (yes b) =
            rw (turn_even k (omega arith), get_or-set_other (set cs (2 * n) v) (2 * n + 1) k w 0 a, b, get_or-set_same cs (2 * n) v 0 (omega (arith, t.others))) (omega arith)
        by (no a) (no b) =
            get_or-set_other (set cs (2 * n) v) (2 * n + 1) k w 0 a ∙ get_or-set_other cs (2 * n) k v 0 b
            ∙ t.companions k (record { low = u.low; high = omega (arith, u.high) })

    pub entered_new : (y : ℕ) → v ≡ 2 * m + 3 → w ≡ 2 * m + 2 → y ≡ 2 * m + 2 + x % 2 → Entered x m ks (set ks n (x / 2)) (set kd p (m + 1)) (set (set cs (2 * n) v) (2 * n + 1) w) (record { word = y; count = m + 1 })
    entered_new y ev ew ey =
        let q = placed_new ks kd m (x / 2) p t.table f s room in
        let a = length-set ks n (x / 2) in
        let b = length-set kd p (m + 1) in
        let c = length-set (set cs (2 * n) v) (2 * n + 1) w in
        let d = length-set cs (2 * n) v in
        entered_by ks m x (m + 1) y (set ks n (x / 2)) (set kd p (m + 1)) cs' (m + 1)
        (record {
          table = rw e q.table;
          companions = paired ev ew;
          room = omega arith;
          small = omega (arith, t.small);
          kids = omega (arith, t.kids);
          others = omega (arith, t.others);
        })
        (record { up = omega arith; long = a; same = rw e q.stay }) (omega arith) (rw e q.is) (omega arith)

-- ---- a node

reads_subject : (c : ℕ) (o : Option Requirement) → Reading c o → (c ≡ 0 → ⊥) → Subject (c / 2)
reads_subject c none q n = absurd (n q)
reads_subject c (some r) q n = q.subject

module _ (ws : List ℕ) (vs : List ℤ) (k : Known) (b i : ℕ) (neg : Bool) (c : ℕ) (y : Means ws vs k b i neg c) where
  pub node_subject : (c ≡ 0 → ⊥) → Subject (c / 2)
  node_subject n = reads_subject c (map_req (signed neg) (parse_requirement (known_sheet k) (tree_below (nodes_in ws vs 0) b i))) (y (known_sheet k) 0 (knows k)) n

  pub read_none : (m : ℕ) (ks kd cs : List ℕ) → Tables ks kd cs m → c ≡ 0 → ReadEntry ws vs k b i neg m ks ks kd cs (record { word = 0; count = m })
  read_none m ks kd cs t z = record {
    tables = t;
    grown = grown_same ks m;
    few = omega arith;
    still = λ e. refl;
    leaf = λ w h n g. by (map_req (signed neg) (parse_requirement h (tree_below (nodes_in ws vs n) b i))) (y h n g);
    full = λ e. absurd (omega arith);
    wants = λ e. absurd (omega arith);
  }
    where
      by : (o : Option Requirement) → Reading c o → Leaf ks m 0 o
      by none q = refl
      by (some r) q = absurd (omega (arith, q.some))

  pub read_some : (m : ℕ) (ks ks' kd' cs' : List ℕ) (r : Word) → (c ≡ 0 → ⊥) → Entered c m ks ks' kd' cs' r → ReadEntry ws vs k b i neg m ks ks' kd' cs' r
  read_some m ks ks' kd' cs' r z q = record {
    tables = q.tables;
    grown = q.grown;
    few = q.few;
    still = λ e. absurd (omega (arith, (q.stand (λ f. omega arith)).valid.low));
    leaf = λ w h n g. by w (map_req (signed neg) (parse_requirement h (tree_below (nodes_in ws vs n) b i))) (y h n g);
    full = q.full;
    wants = λ w h n g e. z (rw e at (y h n g));
  }
    where
      by : (r.word ≡ no_room → ⊥) → (o : Option Requirement) → Reading c o → Leaf ks' r.count r.word o
      by w none p = absurd (z p)
      by w (some v) p = rw (← p.is) (q.stand w)
