-- The filter for any companions at all, as laws: what it keeps, that marks and words do for a set, and companions of three sorts (02, A.3). Assumes nothing.
use Rattle.std.specs.Prelude.{◌≡◌, refl, Bool, true, false, not, cond, ◌&&◌, ◌||◌, List, [], ◌∷◌, ◌++◌, ℕ, get_or}
use Rattle.std.proofs.Common.{sym, ap, ◌∙◌, true≢false}
use Rattle.std.proofs.Math.Bool.{or_comm}
use Rattle.std.proofs.lemmas.Bool.{not-false}
use Rattle.model.proofs.Laws.Bools.{or_left}
use Rattle.parse_filter.specs.Chains.{companion_of, has}
use Rattle.parse_filter.specs.Filter.{stay, filtered, unmet, HeldAs}
use Rattle.parse_filter.proofs.Members.{has_append, has_stay, stay_append, has_self, has_later}

-- what is kept: an entry of the set, whose companion is not in the set
pub filtered_has : (xs : List ℕ) (companion : ℕ → ℕ) (e : ℕ) → has e (filtered xs companion) ≡ not (has (companion e) xs) && has e xs
unfolding filtered
filtered_has xs companion e = has_stay (λ x. not (has (companion x) xs)) e xs

-- ---- marks and words

-- what p asks of those that pass q
stay_twice : (p q both : ℕ → Bool) → ((e : ℕ) → p e ≡ both e) → ((e : ℕ) → q e ≡ false → both e ≡ false) → (l : List ℕ) → stay p (stay q l) ≡ stay both l
unfolding stay
stay_twice p q both f g [] = refl
stay_twice p q both f g (x ∷ l) = by (q x) (both x) refl refl (stay_twice p q both f g l)
  where
    by : (s t : Bool) → q x ≡ s → both x ≡ t → stay p (stay q l) ≡ stay both l → stay p (cond s (x ∷ stay q l) (stay q l)) ≡ cond t (x ∷ stay both l) (stay both l)
    by true true a b ih = rw (f x ∙ b, ih)
    by true false a b ih = rw (f x ∙ b) ih
    by false true a b ih = absurd (true≢false (sym b ∙ g x a))
    by false false a b ih = ih

-- the words whose companion is not marked are the set, filtered
pub held_filtered : (cs : List ℕ) (seen : List Bool) (words set : List ℕ) → HeldAs cs seen words set → unmet seen (companion_of cs) words ≡ filtered set (companion_of cs)
unfolding unmet filtered
held_filtered cs seen words set h =
    rw h.order
    (stay_twice (λ e. not (get_or seen (companion_of cs e) false)) h.looked (λ e. not (has (companion_of cs e) set))
    (λ e. ap not (h.marks (companion_of cs e))) (λ e z. ap not (h.others e z)) set)

-- ---- how a set comes to be held

stay_all : (p : ℕ → Bool) (l : List ℕ) → ((e : ℕ) → has e l ≡ true → p e ≡ true) → stay p l ≡ l
unfolding stay
stay_all p [] f = refl
stay_all p (x ∷ l) f = rw (f x (has_self x l), stay_all p l (λ e h. f e (has_later e x l h)))

stay_same : (p q : ℕ → Bool) (l : List ℕ) → ((e : ℕ) → has e l ≡ true → p e ≡ q e) → stay p l ≡ stay q l
unfolding stay
stay_same p q [] f = refl
stay_same p q (x ∷ l) f = rw (f x (has_self x l), stay_same p q l (λ e h. f e (has_later e x l h)))

-- all of it is looked at
pub held_whole : (cs : List ℕ) (seen : List Bool) (set : List ℕ) → ((e : ℕ) → get_or seen e false ≡ has e set) → HeldAs cs seen set set
held_whole cs seen set m = record { marks = m; looked = λ e. true; order = sym (stay_all (λ e. true) set (λ e h. refl)); others = λ e z. absurd (true≢false z) }

-- once it was filtered, what was kept is enough to look at
pub held_kept_lem : (cs : List ℕ) (seen : List Bool) (words set : List ℕ) → HeldAs cs seen words set → HeldAs cs seen (filtered set (companion_of cs)) set
unfolding filtered
held_kept_lem cs seen words set h = record { marks = h.marks; looked = λ e. not (has (companion_of cs e) set); order = refl; others = λ e z. not-false (has (companion_of cs e) set) z }

-- entries that are not in it are marked and join it behind the others
pub held_more : (cs : List ℕ) (seen seen' : List Bool) (words set new : List ℕ) → HeldAs cs seen words set → ((e : ℕ) → has e new ≡ true → has e set ≡ false)
    → ((e : ℕ) → get_or seen' e false ≡ has e new || get_or seen e false) → HeldAs cs seen' (words ++ new) (set ++ new)
held_more cs seen seen' words set new h apart m = record {
  marks = λ e. m e ∙ ap (λ b. has e new || b) (h.marks e) ∙ or_comm (has e new) (has e set) ∙ sym (has_append e set new);
  looked = looked;
  order =
      ap (λ l. l ++ new) (h.order ∙ sym (stay_same looked h.looked set (λ e z. old e (has e new) refl z)))
      ∙ ap (λ l. stay looked set ++ l) (sym (stay_all looked new (λ e z. or_left (has e new) (h.looked e) z)))
      ∙ sym (stay_append looked set new);
  others = λ e z. has_append (companion_of cs e) set new ∙ or_left (has (companion_of cs e) set) (has (companion_of cs e) new) (h.others e (none (has e new) (h.looked e) z));
}
  where
    looked : ℕ → Bool
    looked e = has e new || h.looked e

    old : (e : ℕ) (b : Bool) → has e new ≡ b → has e set ≡ true → has e new || h.looked e ≡ h.looked e
    old e true a z = absurd (true≢false (sym z ∙ apart e a))
    old e false a z = rw a

    none : (a b : Bool) → a || b ≡ false → b ≡ false
    none true b z = absurd (true≢false z)
    none false b z = z

-- ---- companions of three sorts; with the negations as companions see Negations

stay_none : (p : ℕ → Bool) (l : List ℕ) → ((e : ℕ) → has e l ≡ true → p e ≡ false) → stay p l ≡ []
unfolding stay
stay_none p [] f = refl
stay_none p (x ∷ l) f = rw (f x (has_self x l)) (stay_none p l (λ e h. f e (has_later e x l h)))

-- each entry its own companion: nothing stays
pub own_companions : (xs : List ℕ) → filtered xs (λ e. e) ≡ []
unfolding filtered
own_companions xs = stay_none (λ e. not (has e xs)) xs (λ e h. ap not h)

-- companions that are not in the set: all stay, in their order
pub companions_apart : (xs : List ℕ) (companion : ℕ → ℕ) → ((e : ℕ) → has e xs ≡ true → has (companion e) xs ≡ false) → filtered xs companion ≡ xs
unfolding filtered
companions_apart xs companion f = stay_all (λ e. not (has (companion e) xs)) xs (λ e h. ap not (f e h))
