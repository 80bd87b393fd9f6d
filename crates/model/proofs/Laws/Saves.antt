-- A save that fits the sheet, part by part, and back. Assumes nothing.
use Rattle.std.specs.Prelude.{◌≡◌, Bool, true, ◌&&◌, List, ℕ, eqb, length}
use borrow.Author.Tests.{eqb-true, eq-eqb}
use Rattle.std.specs.Int.{w16, w32}
use Rattle.model.specs.Limits.{flag_count, time_count, variable_count}
use Rattle.model.specs.Signed.{in_range}
use Rattle.model.specs.Save.{Save}
use Rattle.model.specs.Sheet.{Sheet, all, is_bit, is_count, item_count, save_ok, save_refusal}
use Rattle.model.proofs.Laws.Checks.{and_left, and_right, passed, and5}

pub record Kept (h : Sheet) (s : Save) : Type 0 where
  pub items_long : length s.items ≡ item_count h
  pub items : all is_count s.items ≡ true
  pub atcs_long : length s.atcs ≡ h.atc_count
  pub atcs : all is_bit s.atcs ≡ true
  pub flags_long : length s.flags ≡ flag_count
  pub flags : all is_bit s.flags ≡ true
  pub times_long : length s.times ≡ time_count
  pub times : all (in_range w16) s.times ≡ true
  pub variables_long : length s.variables ≡ variable_count
  pub variables : all (in_range w32) s.variables ≡ true

module _ (h : Sheet) (s : Save) where
  abbrev part : {A : Type 0} → (A → Bool) → List A → ℕ → Bool
  part p xs n = eqb (length xs) n && all p xs

  part_long : {A : Type 0} (p : A → Bool) (xs : List A) (n : ℕ) → part p xs n ≡ true → length xs ≡ n
  part_long p xs n e = eqb-true (length xs) n (and_left (eqb (length xs) n) _ e)

  part_all : {A : Type 0} (p : A → Bool) (xs : List A) (n : ℕ) → part p xs n ≡ true → all p xs ≡ true
  part_all p xs n e = and_right (eqb (length xs) n) _ e

  pub save_kept : save_refusal h s ≡ 0 → Kept h s
  unfolding save_ok
  save_kept e =
      let p = and5 (part is_count s.items (item_count h)) (part is_bit s.atcs h.atc_count) (part is_bit s.flags flag_count)
      (part (in_range w16) s.times time_count) (part (in_range w32) s.variables variable_count) (passed (save_ok h s) 11 e) in
      record {
        items_long = part_long is_count s.items (item_count h) p.0;
        items = part_all is_count s.items (item_count h) p.0;
        atcs_long = part_long is_bit s.atcs h.atc_count p.1;
        atcs = part_all is_bit s.atcs h.atc_count p.1;
        flags_long = part_long is_bit s.flags flag_count p.2;
        flags = part_all is_bit s.flags flag_count p.2;
        times_long = part_long (in_range w16) s.times time_count p.3;
        times = part_all (in_range w16) s.times time_count p.3;
        variables_long = part_long (in_range w32) s.variables variable_count p.4;
        variables = part_all (in_range w32) s.variables variable_count p.4;
      }

  pub kept_save : Kept h s → save_refusal h s ≡ 0
  unfolding save_ok
  kept_save k =
      rw (
        eq-eqb (length s.items) (item_count h) k.items_long,
        k.items,
        eq-eqb (length s.atcs) h.atc_count k.atcs_long,
        k.atcs,
        eq-eqb (length s.flags) flag_count k.flags_long,
        k.flags,
        eq-eqb (length s.times) time_count k.times_long,
        k.times,
        eq-eqb (length s.variables) variable_count k.variables_long,
        k.variables,
      )
