-- Checks 9 and 19 by what a shop takes, over the limits of any loader. Assumes nothing.
use Rattle.std.specs.Prelude.{◌≡◌, refl, Bool, true, false, ◌&&◌, List, [], ◌∷◌, ◌+◌, leb, length}
use Rattle.std.proofs.Common.{sym, ap, ◌∙◌, arith, le-leb, leb-true}
use Rattle.model.specs.declared.Loader.{Loader}
use Rattle.model.specs.declared.Loader.TheVariants.{Disc, Demo}
use Rattle.model.specs.Limits.{block_limit, command_limit}
use Rattle.model.specs.Refusal.{check, first_of, no_room, demo_full}
use Rattle.model.specs.Script.{Script}
use Rattle.model.specs.Sheet.{Sheet}
use Rattle.model.specs.Shop.{Slot}
use Rattle.model.specs.Image.{Limits, limits}
use Rattle.model.specs.Compile.{shop_blocks, disc_limits, demo_limits, limits_of, has_room, room_refusal}
use Rattle.model.proofs.Laws.Checks.{and_left, and_right}
use Rattle.memory.specs.declared.Counts.{Counts}
use Rattle.compile_sizes.specs.declared.Size.{Size}
use Rattle.compile_sizes.specs.Sizes.{shop_size}
use Rattle.compile_sizes.specs.Blocks.{shop_sized}

abbrev pub limits_in : Size → Limits
limits_in l = limits l.blocks l.commands l.nodes

-- a script with the counts k has room for what takes r
abbrev pub within : Limits → Counts → Size → Bool
within l k r = leb (k.blocks + r.blocks) l.blocks && (leb (k.commands + r.commands) l.commands && leb (k.nodes + r.nodes) l.nodes)

room_within : (l : Limits) (h : Sheet) (xs : List Slot) (k : Counts) (r : Size) → r ≡ shop_size h xs
    → (sc : Script) → length sc.blocks ≡ k.blocks → sc.commands ≡ k.commands → sc.nodes ≡ k.nodes → within l k r ≡ has_room l sc (shop_blocks h k.blocks xs)
unfolding has_room
room_within l h xs k r e sc eb ec en = let s = shop_sized h k.blocks xs in rw (e, eb, ec, en, s.blocks, s.commands, s.nodes)

-- as the code asks it, which has a loader's limits from a call
pub asked : (l : Size) (o : Loader) (k : Counts) (r : Size) (b t : Bool) → limits_in l ≡ limits_of o → b ≡ within (limits_in l) k r → b ≡ t → within (limits_of o) k r ≡ t
asked l o k r b t e p q = ap (λ (m : Limits). within m k r) (sym e) ∙ sym p ∙ q

-- no limit of a loader is above the disc's
module _ (k : Counts) (r : Size) where
  disc_too : (o : Loader) → within (limits_of o) k r ≡ true → within disc_limits k r ≡ true
  disc_too Disc f = f
  disc_too Demo f =
      let b : Bool = leb (k.blocks + r.blocks) demo_limits.blocks in
      let c : Bool = leb (k.commands + r.commands) demo_limits.commands in
      rw (
        le-leb (k.blocks + r.blocks) block_limit (omega (arith, leb-true (k.blocks + r.blocks) demo_limits.blocks (and_left b _ f))),
        le-leb (k.commands + r.commands) command_limit (omega (arith, leb-true (k.commands + r.commands) demo_limits.commands (and_left c _ (and_right b _ f)))),
        and_right c _ (and_right b _ f),
      )

-- ---- the two checks, where the shop takes r

module _ (o : Loader) (h : Sheet) (xs : List Slot) (k : Counts) (r : Size) (e : r ≡ shop_size h xs)
    (sc : Script) (eb : length sc.blocks ≡ k.blocks) (ec : sc.commands ≡ k.commands) (en : sc.nodes ≡ k.nodes) where
  in_order : room_refusal o sc (shop_blocks h k.blocks xs) ≡ first_of (check (within disc_limits k r) no_room ∷ check (within (limits_of o) k r) demo_full ∷ [])
  unfolding room_refusal
  in_order = rw (room_within disc_limits h xs k r e sc eb ec en, room_within (limits_of o) h xs k r e sc eb ec en)

  pub refused_disc : within disc_limits k r ≡ false → 9 ≡ room_refusal o sc (shop_blocks h k.blocks xs)
  refused_disc f = sym (in_order ∙ rw f refl)

  pub refused_loader : within disc_limits k r ≡ true → within (limits_of o) k r ≡ false → 19 ≡ room_refusal o sc (shop_blocks h k.blocks xs)
  refused_loader f g = sym (in_order ∙ rw (f, g) refl)

  pub has_room_lem : within (limits_of o) k r ≡ true → 0 ≡ room_refusal o sc (shop_blocks h k.blocks xs)
  has_room_lem g = sym (in_order ∙ rw (disc_too k r o g, g) refl)
