-- The codes that join a slot's set, inserted one by one into the row that holds it. Assumes nothing.
use Rattle.std.specs.Prelude.{◌≡◌, refl, List, ◌∷◌, ◌++◌, ℕ, suc, ◌+◌, ◌-◌, ◌≤◌, ◌<◌, length, take, drop, get_or}
use Rattle.std.proofs.Common.{sym, ap, subst, ◌∙◌, append_assoc, add-one, arith, length-append, length-drop, take-append-drop, take_all, take_at, drop_at, drop-cons, drop-drop, length-take-le, le-leb}
use Rattle.std.proofs.Math.Decide.{dec_le}
use Rattle.std.proofs.Math.Seq.{paste, drop-length}
use Rattle.std.proofs.lemmas.Bool.{lt-leb}
use Rattle.model.specs.Limits.{entry_limit}
use Rattle.shop.specs.Sets.{insert_code, Inserted}
use Rattle.shop.specs.SetLaws.{insert_more}
use Rattle.parse_scan.specs.Extend.{insert_codes, codes_longer}

-- the codes ds joined the first n of a row, r of them now: what lies past them stays; an r past the row says that they are too many
pub record RowHid (row : List ℕ) (n : ℕ) (ds : List ℕ) (out : List ℕ) (r : ℕ) : Type 0 where
  pub long : length out ≡ entry_limit
  pub over : entry_limit < r → entry_limit < length (insert_codes (take n row) ds)
  pub count : r ≤ entry_limit → r ≡ length (insert_codes (take n row) ds)
  pub is : r ≤ entry_limit → out ≡ insert_codes (take n row) ds ++ drop r row

-- .. of the row that begins at start: the codes before and after it stay
pub record PartHid (cs : List ℕ) (start n : ℕ) (ds : List ℕ) (out : List ℕ) (r : ℕ) : Type 0 where
  pub row : List ℕ
  pub hid : RowHid (take entry_limit (drop start cs)) n ds row r
  pub is : out ≡ paste cs start row entry_limit

-- the row is the part of the codes that begins at start
pub part_hid : (cs : List ℕ) (start n k : ℕ) (ds row : List ℕ) (r : ℕ) → k ≡ entry_limit → RowHid (take k (drop start cs)) n ds row r → PartHid cs start n ds (take start cs ++ (row ++ drop k (drop start cs))) r
part_hid cs start n k ds row r e v = record {
  row = row;
  hid = subst (λ j. RowHid (take j (drop start cs)) n ds row r) e v;
  is = sym
      (ap (λ l. take start cs ++ l ++ drop (start + entry_limit) cs) (take_all entry_limit row (omega (arith, v.long)))
      ∙ append_assoc (take start cs) row (drop (start + entry_limit) cs)
      ∙ ap (λ l. take start cs ++ (row ++ l)) (sym (drop-drop entry_limit start cs) ∙ ap (λ j. drop j (drop start cs)) (sym e)));
}

-- ---- the loop

-- the first i of the codes are in
pub record RowHiding (row : List ℕ) (n : ℕ) (ds out : List ℕ) (r i : ℕ) : Type 0 where
  pub low : i ≤ length ds
  pub few : r ≤ entry_limit
  pub long : length out ≡ entry_limit
  pub back : drop r out ≡ drop r row
  pub same : insert_codes (take n row) ds ≡ insert_codes (take r out) (drop i ds)

pub row_start : (row : List ℕ) (n : ℕ) (ds : List ℕ) → length row ≡ entry_limit → n ≤ entry_limit → RowHiding row n ds row n 0
row_start row n ds e h = record { low = omega arith; few = h; long = e; back = refl; same = refl }

module _ (row : List ℕ) (n : ℕ) (ds out : List ℕ) (r i : ℕ) (v : RowHiding row n ds out r i) where
  held_long : length (take r out) ≡ r
  held_long = length-take-le r out (omega (arith, v.long, v.few))

  -- all of them
  pub row_done : length ds ≤ i → RowHid row n ds out r
  row_done h =
      let e : i ≡ length ds = omega (arith, v.low) in
      let s : insert_codes (take n row) ds ≡ take r out = v.same ∙ ap (λ k. insert_codes (take r out) (drop k ds)) e ∙ ap (insert_codes (take r out)) (drop-length ds) in
      record {
        long = v.long;
        over = λ l. absurd (omega (arith, v.few));
        count = λ l. sym (ap length s ∙ held_long);
        is = λ l. sym (ap (λ x. x ++ drop r row) s ∙ ap (λ x. take r out ++ x) (sym v.back) ∙ take-append-drop r out);
      }

  -- one more
  module _ (h : i < length ds) (x : ℕ) (ex : x ≡ get_or ds i 0) (out' : List ℕ) (r' : ℕ) (w : Inserted out r x out' r') where
    whole : insert_codes (take n row) ds ≡ insert_codes (insert_code x (take r out)) (drop (suc i) ds)
    whole = v.same ∙ ap (insert_codes (take r out)) (drop-cons ds i 0 h ∙ ap (λ y. y ∷ drop (suc i) ds) (sym ex))

    grown : r ≤ r'
    grown = omega (arith, w.count, (insert_more x (take r out)).0, held_long)

    in_place : r' ≤ entry_limit → out' ≡ insert_code x (take r out) ++ drop r' out
    in_place l = w.is ∙ rw (le-leb r' entry_limit l)

    pub row_long : length out' ≡ entry_limit
    row_long = by (dec_le r' entry_limit)
      where
        by : Dec (r' ≤ entry_limit) → length out' ≡ entry_limit
        by (yes l) = ap length (in_place l) ∙ omega (arith, length-append (insert_code x (take r out)) (drop r' out), length-drop r' out, w.count, v.long)
        by (no l) = let e : out' ≡ out = w.is ∙ rw (lt-leb r' entry_limit (omega arith)) in ap length e ∙ v.long

    -- over entry_limit: there are more at the end
    pub row_over : entry_limit < r' → RowHid row n ds out' r'
    row_over l = record {
      long = row_long;
      over = λ q. omega (arith, w.count, codes_longer (insert_code x (take r out)) (drop (suc i) ds), ap length whole);
      count = λ q. absurd (omega arith);
      is = λ q. absurd (omega arith);
    }

    pub row_more : r' ≤ entry_limit → RowHiding row n ds out' r' (i + 1)
    row_more l =
        let e : r + (r' - r) ≡ r' = omega (arith, grown) in
        let t : take r' out' ≡ insert_code x (take r out) = ap (take r') (in_place l) ∙ take_at (insert_code x (take r out)) (drop r' out) r' (sym w.count) in
        let d : drop r' out' ≡ drop r' out = ap (drop r') (in_place l) ∙ drop_at (insert_code x (take r out)) (drop r' out) r' (sym w.count) in
        let b : drop r' out ≡ drop r' row =
        ap (λ k. drop k out) (sym e) ∙ sym (drop-drop (r' - r) r out) ∙ ap (drop (r' - r)) v.back ∙ drop-drop (r' - r) r row ∙ ap (λ k. drop k row) e in
        record {
          low = omega arith;
          few = l;
          long = row_long;
          back = d ∙ b;
          same = whole ∙ ap (λ c. insert_codes c (drop (suc i) ds)) (sym t) ∙ ap (λ k. insert_codes (take r' out') (drop k ds)) (sym (add-one i));
        }
