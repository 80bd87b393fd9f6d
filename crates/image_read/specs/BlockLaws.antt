-- The steps of the block reader. Assumes nothing.
use Rattle.std.specs.Prelude.{◌≡◌, Result, Ok, Err, ℤ, drop}
use Rattle.std.proofs.Math.Path.{refl, ap, ap₂, sym}
use Rattle.std.proofs.Common.{◌∙◌, arith}
use Rattle.std.proofs.Math.Option.{none, some}
use mathlib.Core.List.{List}
use Prim.Native.Nat.{ℕ, zero, suc, ◌+◌, ◌≤◌, ◌<◌}
use borrow.Author.Tests.{lt-ltb, le-ltb, le-leb, lt-leb}
use Rattle.std.proofs.Math.ListN.{length}
use Rattle.model.specs.Limits.{command_limit, node_limit, wide}
use Rattle.model.specs.Refusal.{no_such_link}
use Rattle.model.specs.Reading.{got, refused, onward, number}
use Rattle.model.specs.Script.{placeholder, code, data_block}
use Rattle.model.specs.Image.{Limits, link_of, read_link, read_commands, read_code, block_of, read_block}
use Rattle.model.specs.Memory.{Coded, coded_in, put_commands, memory_in, push_block, put_block}
use Rattle.model.proofs.Laws.Image.{said_commands}
use Rattle.memory.specs.Pushed.{PushedBlock}
use Rattle.image_read.specs.Told.{ToldNumber, limits_of, PutMany, ToldCommands, PutLink, ToldLink, LinksRefused, first, second, ToldLinks, Declared, ToldCount, ToldBlock}
use Rattle.model.specs.Refusals.{refusal_number}
use Rattle.model.specs.declared.Refusal.{Refusal}
use Rattle.model.specs.declared.Refusal.TheVariants.{OverLimit, NoSuchLink}

-- ---- links

module _ (s t : List ℕ) (b : ℕ) where
  at_link : (k p : ℕ) → ToldNumber s (number wide t) (Ok (k, p)) → read_link b t ≡ link_of b k (drop p s)
  unfolding ToldNumber read_link
  at_link k p a = rw a.0

  link_place : (k p : ℕ) → ToldNumber s (number wide t) (Ok (k, p)) → p ≤ length s
  unfolding ToldNumber
  link_place k p a = a.1

  by_link : (k p : ℕ) → k ≤ b → link_of b k (drop p s) ≡ read_link b t → p ≤ length s → PutLink s (read_link b t) k p
  unfolding link_of
  by_link zero p h e g = record { to = none; read = sym e; place = g; word = refl }
  by_link (suc k) p h e g = record { to = some k; read = sym e ∙ rw (lt-ltb k b h); place = g; word = refl }

  pub link_in_lem : (k p : ℕ) → ToldNumber s (number wide t) (Ok (k, p)) → k ≤ b → ToldLink s (read_link b t) (Ok (k, p))
  unfolding ToldLink
  link_in_lem k p a h = by_link k p h (sym (at_link k p a)) (link_place k p a)

  out : (k : ℕ) (u : List ℕ) → b < k → link_of b k u ≡ refused no_such_link
  unfolding link_of
  out zero u h = absurd (omega arith)
  out (suc k) u h = rw (le-ltb k b (omega arith))

  pub link_out : (k p : ℕ) → ToldNumber s (number wide t) (Ok (k, p)) → b < k → ToldLink s (read_link b t) (Err NoSuchLink)
  unfolding ToldLink
  link_out k p a h = at_link k p a ∙ out k (drop p s) h

  pub link_bad : (e : Refusal) → ToldNumber s (number wide t) (Err e) → ToldLink s (read_link b t) (Err e)
  unfolding ToldNumber ToldLink read_link
  link_bad e a = rw (a.0, a.1)

-- next, then else
module _ (s : List ℕ) (b at : ℕ) where
  pub links_no : (e : Refusal) → ToldLink s (read_link b (drop at s)) (Err e) → ToldLinks s b at (Err e)
  unfolding ToldLink ToldLinks
  links_no e f = first f

  module _ (u p : ℕ) (x : ToldLink s (read_link b (drop at s)) (Ok (u, p))) where
    next_put : PutLink s (read_link b (drop at s)) u p
    unfolding ToldLink
    next_put = x

    pub links_no_2 : (e : Refusal) → ToldLink s (read_link b (drop p s)) (Err e) → ToldLinks s b at (Err e)
    unfolding ToldLink ToldLinks
    links_no_2 e f = second u p next_put f

    pub links_done : (v p' : ℕ) → ToldLink s (read_link b (drop p s)) (Ok (v, p')) → ToldLinks s b at (Ok (u, v, p'))
    unfolding ToldLink ToldLinks
    links_done v p' y = record { middle = p; next = next_put; else = y }

-- ---- the declared commands

module _ (s : List ℕ) (m at : ℕ) where
  pub count_bad : (e : Refusal) → ToldNumber s (number wide (drop at s)) (Err e) → ToldCount s m at (Err e)
  unfolding ToldNumber ToldCount block_of
  count_bad e f b n = rw (f.0, f.1)

  module _ (c p : ℕ) (f : ToldNumber s (number wide (drop at s)) (Ok (c, p))) where
    pub count_full : command_limit < m + c → ToldCount s m at (Err OverLimit)
    unfolding ToldNumber ToldCount block_of
    count_full h b n = rw (f.0, lt-leb (m + c) command_limit h)

    pub count_done : m + c ≤ command_limit → ToldCount s m at (Ok (c, p))
    unfolding ToldNumber ToldCount
    count_done fits = record { read = f.0; place = f.1; room = fits }

  pub declared : (h p : ℕ) → ToldCount s m at (Ok (h, p)) → Declared s m at h p
  unfolding ToldCount
  declared h p x = x

-- ---- a code block

module _ (s : List ℕ) (w : List ℕ) (v : List ℤ) (cw bw : List ℕ) (n m q b at : ℕ) where
  pub code_count_no : (e : Refusal) (w' : List ℕ) (v' : List ℤ) (cw' bw' : List ℕ) → ToldCount s m at (Err e) → ToldBlock s (memory_in w v cw bw n m q) (block_of (limits_of b) m n 1 (drop at s)) (Err e) w' v' cw' bw' (q + 1)
  unfolding ToldBlock ToldCount
  code_count_no e w' v' cw' bw' f = f b n

  module _ (h p : ℕ) (x : ToldCount s m at (Ok (h, p))) where
    module _ (w₁ : List ℕ) (v₁ : List ℤ) (cw₁ : List ℕ) where
      at_code : block_of (limits_of b) m n 1 (drop at s) ≡ onward (read_commands (limits_of b) h n (drop p s)) (λ cs r. onward (read_link b r) (λ nx t. onward (read_link b t) (λ el u. got (code cs nx el) u)))
      unfolding block_of read_code
      at_code = rw ((declared s m at h p x).read, le-leb (m + h) command_limit (declared s m at h p x).room)

      pub code_commands_no : (e : Refusal) (w' : List ℕ) (v' : List ℤ) (cw' bw' : List ℕ) → ToldCommands s (coded_in w v cw n m) (read_commands (limits_of b) h n (drop p s)) (Err e) w₁ v₁ cw₁ (m + h) → ToldBlock s (memory_in w v cw bw n m q) (block_of (limits_of b) m n 1 (drop at s)) (Err e) w' v' cw' bw' (q + 1)
      unfolding ToldBlock ToldCommands
      code_commands_no e w' v' cw' bw' f = at_code ∙ rw f

      module _ (n₁ p₁ : ℕ) (y : ToldCommands s (coded_in w v cw n m) (read_commands (limits_of b) h n (drop p s)) (Ok (n₁, p₁)) w₁ v₁ cw₁ (m + h)) where
        held : PutMany s (coded_in w v cw n m) (read_commands (limits_of b) h n (drop p s)) p₁ (coded_in w₁ v₁ cw₁ n₁ (m + h))
        unfolding ToldCommands
        held = y

        links_refused : (j : ℕ) → LinksRefused s b p₁ j → block_of (limits_of b) m n 1 (drop at s) ≡ refused j
        links_refused j (first f) = at_code ∙ rw (held.read, f)
        links_refused j (second u p₂ l f) = at_code ∙ rw (held.read, l.read, f)

        pub code_links_no : (e : Refusal) (w' : List ℕ) (v' : List ℤ) (cw' bw' : List ℕ) → ToldLinks s b p₁ (Err e) → ToldBlock s (memory_in w v cw bw n m q) (block_of (limits_of b) m n 1 (drop at s)) (Err e) w' v' cw' bw' (q + 1)
        unfolding ToldBlock ToldLinks
        code_links_no e w' v' cw' bw' f = links_refused (refusal_number e) f

        pub code_done : (u₁ u₂ p₂ j : ℕ) (bw' : List ℕ) → ToldLinks s b p₁ (Ok (u₁, u₂, p₂)) → PushedBlock bw q 1 m h u₁ u₂ bw' j → ToldBlock s (memory_in w v cw bw n m q) (block_of (limits_of b) m n 1 (drop at s)) (Ok (n₁, m + h, p₂)) w₁ v₁ cw₁ bw' (q + 1)
        unfolding ToldBlock ToldLinks put_block
        code_done u₁ u₂ p₂ j bw' l u =
            let len : h ≡ length held.trees = sym (said_commands (limits_of b) h n (drop p s) held.trees (drop p₁ s) held.read).fits.0 in
            let me = memory_in w v cw bw n m q in
            let co = put_commands (coded_in w v cw n m) held.trees in
            record {
              tree = code held.trees l.next.to l.else.to;
              read = at_code ∙ rw (held.read, l.next.read, l.else.read);
              place = l.else.place;
              after = ap (λ (y : List ℕ). memory_in w₁ v₁ cw₁ y n₁ (m + h) (q + 1)) u.is
                  ∙ ap (λ (y : Coded). push_block me y 1 m h u₁ u₂) held.after
                  ∙ ap (λ (y : ℕ). push_block me co 1 m y u₁ u₂) len
                  ∙ ap₂ (λ (y z : ℕ). push_block me co 1 m (length held.trees) y z) l.next.word l.else.word;
              nodes_low = held.low;
              commands_low = (declared s m at h p x).room;
            }

-- ---- by the kind

not_code_lem : (l : Limits) (m n k : ℕ) (t : List ℕ) → 1 < k → block_of l m n k t ≡ got data_block t
unfolding block_of
not_code_lem l m n zero t h = absurd (omega arith)
not_code_lem l m n (suc zero) t h = absurd (omega arith)
not_code_lem l m n (suc (suc k)) t h = refl

module _ (s : List ℕ) (w : List ℕ) (v : List ℤ) (cw bw : List ℕ) (n m q b at : ℕ) where
  pub kind_bad : (e : Refusal) (w' : List ℕ) (v' : List ℤ) (cw' bw' : List ℕ) → ToldNumber s (number 3 (drop at s)) (Err e) → ToldBlock s (memory_in w v cw bw n m q) (read_block (limits_of b) m n (drop at s)) (Err e) w' v' cw' bw' (q + 1)
  unfolding ToldBlock read_block ToldNumber
  kind_bad e w' v' cw' bw' a = rw (a.0, a.1)

  module _ (k p : ℕ) (a : ToldNumber s (number 3 (drop at s)) (Ok (k, p))) where
    at_kind : read_block (limits_of b) m n (drop at s) ≡ block_of (limits_of b) m n k (drop p s)
    unfolding read_block ToldNumber
    at_kind = rw a.0

    here : p ≤ length s
    unfolding ToldNumber
    here = a.1

    pub placeholder_done : (j : ℕ) (bw' : List ℕ) → n ≤ node_limit → m ≤ command_limit → k ≡ 0 → PushedBlock bw q 0 0 0 0 0 bw' j → ToldBlock s (memory_in w v cw bw n m q) (read_block (limits_of b) m n (drop at s)) (Ok (n, m, p)) w v cw bw' (q + 1)
    unfolding ToldBlock block_of put_block
    placeholder_done j bw' nl ml kk u = record { tree = placeholder; read = at_kind ∙ rw kk; place = here; after = ap (λ (x : List ℕ). memory_in w v cw x n m (q + 1)) u.is; nodes_low = nl; commands_low = ml }

    pub data_done : (j : ℕ) (bw' : List ℕ) → n ≤ node_limit → m ≤ command_limit → 1 < k → PushedBlock bw q 2 0 0 0 0 bw' j → ToldBlock s (memory_in w v cw bw n m q) (read_block (limits_of b) m n (drop at s)) (Ok (n, m, p)) w v cw bw' (q + 1)
    unfolding ToldBlock put_block
    data_done j bw' nl ml more u = record { tree = data_block; read = at_kind ∙ not_code_lem (limits_of b) m n k (drop p s) more; place = here; after = ap (λ (x : List ℕ). memory_in w v cw x n m (q + 1)) u.is; nodes_low = nl; commands_low = ml }

    pub code_told : (x : Result (ℕ × ℕ × ℕ) Refusal) (w' : List ℕ) (v' : List ℤ) (cw' bw' : List ℕ) → k ≡ 1 → ToldBlock s (memory_in w v cw bw n m q) (block_of (limits_of b) m n 1 (drop p s)) x w' v' cw' bw' (q + 1) → ToldBlock s (memory_in w v cw bw n m q) (read_block (limits_of b) m n (drop at s)) x w' v' cw' bw' (q + 1)
    code_told x w' v' cw' bw' kk t = rw (at_kind, kk) t
