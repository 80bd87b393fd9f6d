-- Lists of calls: what every call keeps holds after the list, refused calls leave no trace, and a list of calls that do what other calls do ends as theirs. Assumes nothing.
use Rattle.std.specs.Prelude.{◌≡◌, ℕ}
use Rattle.std.proofs.Math.Path.{refl, sym, subst, fun_ext}
use Rattle.std.proofs.Common.{ap, ◌∙◌, arith}
use Rattle.std.proofs.Math.Option.{Option, none, some}
use mathlib.Core.List.{List, [], ◌∷◌, map}
use Rattle.model.specs.Shop.{Slot}
use Rattle.model.specs.Lists.{Step, following, after_all, latest, last_from, now_at, Along, NoneAppended}

pub none≢some : {A : Type 0} {x : A} → ◌≡◌ {A = Option A} none (some x) → ⊥
none≢some e = let z : ◌≡◌ {A = ℕ} 0 1 = cc in omega arith

module _ {S C : Type 0} (X : Step S C) where
  -- where nothing is asked of a call
  pub along_any : (s : S) (cs : List C) → Along X (λ s c. Unit {0}) s cs
  unfolding Along
  along_any s [] = tt
  along_any s (c ∷ cs) = (tt, along_any (X.next s c) cs)

  -- where no call moves a block
  pub stays : ((s : S) (c : C) (b : ℕ) → X.now s c b ≡ some b) → (s : S) (cs : List C) (b : ℕ) → now_at X s cs b ≡ some b
  unfolding now_at
  stays k s [] b = refl
  stays k s (c ∷ cs) b = rw (k s c b) (stays k (X.next s c) cs b)

  -- K of a script, a block and the shop accepted last there
  module _ (P : S → C → Type 0) (K : S → ℕ → Option (List Slot) → Type 0)
      (keeps : (s : S) (c : C) (b k : ℕ) (o : Option (List Slot)) → P s c → X.now s c b ≡ some k → K s b o → K (X.next s c) k (latest X s c b o)) where
    pub kept_all : (s : S) (cs : List C) → Along X P s cs → (b k : ℕ) (o : Option (List Slot)) → now_at X s cs b ≡ some k → K s b o → K (after_all X s cs) k (last_from X o s cs b)
    unfolding after_all last_from now_at Along
    kept_all s [] p b k o e q = let z : b ≡ k = cc in subst (λ (j : ℕ). K s j o) z q
    kept_all s (c ∷ cs) p b k o e q = by (X.now s c b) refl e (λ j. kept_all (X.next s c) cs p.1 j k (latest X s c b o))
      where
        by : (n : Option ℕ) → X.now s c b ≡ n → following n (λ j. now_at X (X.next s c) cs j) ≡ some k
            → ((j : ℕ) → now_at X (X.next s c) cs j ≡ some k → K (X.next s c) j (latest X s c b o) → K (after_all X (X.next s c) cs) k (last_from X (latest X s c b o) (X.next s c) cs j))
            → K (after_all X (X.next s c) cs) k (following n (λ j. last_from X (latest X s c b o) (X.next s c) cs j))
        by none w e ih = absurd (none≢some e)
        by (some j) w e ih = ih j e (keeps s c b j o p.0 w q)

-- a call of X, where P holds of it, does to a script of X what another of Y does to a script of Y that R relates to it
pub record Follows {S C T D : Type 0} (X : Step S C) (Y : Step T D) (call : C → D) (P : S → C → Type 0) (R : S → T → Type 0) : Type 0 where
  pub refusal : (s : S) (t : T) (c : C) → R s t → P s c → X.refusal s c ≡ Y.refusal t (call c)
  pub next : (s : S) (t : T) (c : C) → R s t → P s c → R (X.next s c) (Y.next t (call c))
  pub now : (s : S) (t : T) (c : C) (b : ℕ) → R s t → P s c → X.now s c b ≡ Y.now t (call c) b
  pub names : (c : C) (b : ℕ) → X.names c b ≡ Y.names (call c) b
  pub given : (c : C) → X.given c ≡ Y.given (call c)
  pub count : (s : S) (t : T) → R s t → X.count s ≡ Y.count t

-- and so do two lists
pub record Followed {S C T D : Type 0} (X : Step S C) (Y : Step T D) (R : S → T → Type 0) (s : S) (t : T) (cs : List C) (ds : List D) : Type 0 where
  pub after : R (after_all X s cs) (after_all Y t ds)
  pub last : (o : Option (List Slot)) (b : ℕ) → last_from X o s cs b ≡ last_from Y o t ds b
  pub now : (b : ℕ) → now_at X s cs b ≡ now_at Y t ds b
  pub clean : (n : ℕ) → NoneAppended X n s cs → NoneAppended Y n t ds

module _ {S C T D : Type 0} (X : Step S C) (Y : Step T D) (call : C → D) (P : S → C → Type 0) (R : S → T → Type 0) (f : Follows X Y call P R) where
  pub follows_all : (s : S) (t : T) → R s t → (cs : List C) → Along X P s cs → Followed X Y R s t cs (map call cs)
  unfolding after_all last_from now_at Along
  follows_all s t r [] p = record { after = r; last = λ o b. refl; now = λ b. refl; clean = λ n k. tt }
  follows_all s t r (c ∷ cs) p =
      let q = follows_all (X.next s c) (Y.next t (call c)) (f.next s t c r p.0) cs p.1 in
      record {
        after = q.after;
        last = λ o b.
            rw (f.now s t c b r p.0, f.refusal s t c r p.0, f.names c b, f.given c)
            (ap (following (Y.now t (call c) b)) (fun_ext (λ k. q.last (latest Y t (call c) b o) k)));
        now = λ b. rw (f.now s t c b r p.0) (ap (following (Y.now t (call c) b)) (fun_ext (λ k. q.now k)));
        clean = λ n k. ((λ b l u. sym (f.names c b) ∙ k.0 b l (rw (f.count s t r) u)), q.clean n k.1);
      }

  -- what holds of each call of the one holds of each of the other
  pub follows_along : (Q : S → C → Type 0) (Q' : T → D → Type 0) → ((s : S) (t : T) (c : C) → R s t → Q s c → Q' t (call c))
      → (s : S) (t : T) → R s t → (cs : List C) → Along X P s cs → Along X Q s cs → Along Y Q' t (map call cs)
  unfolding Along
  follows_along Q Q' k s t r [] p q = tt
  follows_along Q Q' k s t r (c ∷ cs) p q = (k s t c r q.0, follows_along Q Q' k (X.next s c) (Y.next t (call c)) (f.next s t c r p.0) cs p.1 q.1)
