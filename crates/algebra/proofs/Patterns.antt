-- How the sums over survival patterns change with one life more or less, over any commutative semiring.
use Rattle.std.proofs.Common.{◌≡◌, ℕ, zero, suc, ◌<◌, Bool, true, false, cond, eqb, leb, List, [], ◌∷◌, ◌++◌, map, length, sym, refl, ap, ◌∙◌, subst, ap₂, le_of_suc-le-suc, not-suc-le-zero, arith}
use mathlib.Core.Path.{fun_ext}
use lib.Dec.{eqb-zero-suc, eqb-suc-zero, eqb-suc-suc, leb-zero, leb-suc-zero, leb-suc-suc}
use Rattle.algebra.specs.Ring.{Semi}
use Rattle.algebra.specs.Patterns.{Life, patterns, survivors, kept, total, weight, weights, exactly, at_least}
use Rattle.algebra.proofs.Semiring.{SemiLaws, zero_plus}
use Rattle.algebra.proofs.Solver.{semiring, made}

module _ {F : Type 0} {s : Semi F} (L : SemiLaws s) where
  -- The sum over those of the patterns ps that pass the test.
  abbrev over : List (Life F) → (List Bool → Bool) → List (List Bool) → F
  over ls test ps = total s (map (weight s ls) (kept test ps))

  over_append : (ls : List (Life F)) (test : List Bool → Bool) (ps qs : List (List Bool)) → over ls test (ps ++ qs) ≡ s.plus (over ls test ps) (over ls test qs)
  over_append ls test [] qs = sym (zero_plus L (over ls test qs))
  over_append ls test (p ∷ ps) qs = step (test p) (over_append ls test ps qs)
    where
      step : (b : Bool) → over ls test (ps ++ qs) ≡ s.plus (over ls test ps) (over ls test qs) → total s (map (weight s ls) (cond b (p ∷ kept test (ps ++ qs)) (kept test (ps ++ qs)))) ≡ s.plus (total s (map (weight s ls) (cond b (p ∷ kept test ps) (kept test ps)))) (over ls test qs)
      step true e = ap (s.plus (weight s ls p)) e ∙ sym (L.plus_assoc (weight s ls p) (over ls test ps) (over ls test qs))
      step false e = e

  over_marked : (l : Life F) (ls : List (Life F)) (m : Bool) (test : List Bool → Bool) (ps : List (List Bool)) → over (l ∷ ls) test (map (λ p. m ∷ p) ps) ≡ s.times (cond m l.alive l.dead) (over ls (λ p. test (m ∷ p)) ps)
  over_marked l ls m test [] = sym (L.times_zero (cond m l.alive l.dead))
  over_marked l ls m test (p ∷ ps) = step (test (m ∷ p)) (over_marked l ls m test ps)
    where
      rest : List (List Bool)
      rest = kept test (map (λ p. m ∷ p) ps)

      rest' : List (List Bool)
      rest' = kept (λ p. test (m ∷ p)) ps

      step : (b : Bool) → total s (map (weight s (l ∷ ls)) rest) ≡ s.times (cond m l.alive l.dead) (total s (map (weight s ls) rest')) → total s (map (weight s (l ∷ ls)) (cond b ((m ∷ p) ∷ rest) rest)) ≡ s.times (cond m l.alive l.dead) (total s (map (weight s ls) (cond b (p ∷ rest') rest')))
      step true e = ap (s.plus (weight s (l ∷ ls) (m ∷ p))) e ∙ sym (L.times_plus (cond m l.alive l.dead) (weight s ls p) (total s (map (weight s ls) rest')))
      step false e = e

  -- One life in front, for any test on patterns.
  weights_cons : (test : List Bool → Bool) (l : Life F) (ls : List (Life F)) → weights s test (l ∷ ls) ≡ s.plus (s.times l.alive (weights s (λ p. test (true ∷ p)) ls)) (s.times l.dead (weights s (λ p. test (false ∷ p)) ls))
  weights_cons test l ls =
      let ps = patterns (length ls) in
      over_append (l ∷ ls) test (map (λ p. true ∷ p) ps) (map (λ p. false ∷ p) ps) ∙ ap₂ s.plus (over_marked l ls true test ps) (over_marked l ls false test ps)

  weights_same : (f g : List Bool → Bool) → ((p : List Bool) → f p ≡ g p) → (ls : List (Life F)) → weights s f ls ≡ weights s g ls
  weights_same f g e ls = ap (λ test. weights s test ls) (fun_ext e)

  none_pass : (ls : List (Life F)) (ps : List (List Bool)) → over ls (λ _. false) ps ≡ s.zero
  none_pass ls [] = refl
  none_pass ls (p ∷ ps) = none_pass ls ps

  -- Nothing passes, so the sum is zero.
  weights_none : (test : List Bool → Bool) → ((p : List Bool) → test p ≡ false) → (ls : List (Life F)) → weights s test ls ≡ s.zero
  weights_none test e ls = weights_same test (λ _. false) e ls ∙ none_pass ls (patterns (length ls))

  -- No lives.
  pub exactly_zero_nil : exactly s 0 [] ≡ s.one
  exactly_zero_nil = L.plus_zero s.one

  pub exactly_suc_nil : (k : ℕ) → exactly s (suc k) [] ≡ s.zero
  exactly_suc_nil k = ap (λ b. total s (map (weight s []) (cond b ([] ∷ []) []))) (eqb-zero-suc k)

  pub at_least_zero_nil : at_least s 0 [] ≡ s.one
  at_least_zero_nil = L.plus_zero s.one

  pub at_least_suc_nil : (k : ℕ) → at_least s (suc k) [] ≡ s.zero
  at_least_suc_nil k = ap (λ b. total s (map (weight s []) (cond b ([] ∷ []) []))) (leb-suc-zero k)

  -- One life in front.
  pub exactly_zero_cons : (l : Life F) (ls : List (Life F)) → exactly s 0 (l ∷ ls) ≡ s.times l.dead (exactly s 0 ls)
  exactly_zero_cons l ls =
      let a = l.alive in
      let e : s.times a (weights s (λ p. eqb (suc (survivors p)) 0) ls) ≡ s.zero = ap (s.times a) (weights_none (λ p. eqb (suc (survivors p)) 0) (λ p. eqb-suc-zero (survivors p)) ls) ∙ L.times_zero a in
      weights_cons (λ p. eqb (survivors p) 0) l ls ∙ ap (λ x. s.plus x (s.times l.dead (exactly s 0 ls))) e ∙ zero_plus L (s.times l.dead (exactly s 0 ls))

  pub exactly_suc_cons : (k : ℕ) (l : Life F) (ls : List (Life F)) → exactly s (suc k) (l ∷ ls) ≡ s.plus (s.times l.alive (exactly s k ls)) (s.times l.dead (exactly s (suc k) ls))
  exactly_suc_cons k l ls = weights_cons (λ p. eqb (survivors p) (suc k)) l ls ∙ ap (λ x. s.plus (s.times l.alive x) (s.times l.dead (exactly s (suc k) ls))) (weights_same (λ p. eqb (suc (survivors p)) (suc k)) (λ p. eqb (survivors p) k) (λ p. eqb-suc-suc (survivors p) k) ls)

  pub at_least_zero_cons : (l : Life F) (ls : List (Life F)) → at_least s 0 (l ∷ ls) ≡ s.times (s.plus l.alive l.dead) (at_least s 0 ls)
  at_least_zero_cons l ls =
      let all = at_least s 0 ls in
      weights_cons (λ p. leb 0 (survivors p)) l ls
      ∙ ap (λ x. s.plus (s.times l.alive x) (s.times l.dead all)) (weights_same (λ p. leb 0 (suc (survivors p))) (λ p. leb 0 (survivors p)) (λ p. leb-zero (suc (survivors p)) ∙ sym (leb-zero (survivors p))) ls)
      ∙ semiring L (l.alive ∷ l.dead ∷ all ∷ []) (search made depth 40 fits 100000) tt

  pub at_least_suc_cons : (k : ℕ) (l : Life F) (ls : List (Life F)) → at_least s (suc k) (l ∷ ls) ≡ s.plus (s.times l.alive (at_least s k ls)) (s.times l.dead (at_least s (suc k) ls))
  at_least_suc_cons k l ls = weights_cons (λ p. leb (suc k) (survivors p)) l ls ∙ ap (λ x. s.plus (s.times l.alive x) (s.times l.dead (at_least s (suc k) ls))) (weights_same (λ p. leb (suc k) (suc (survivors p))) (λ p. leb k (survivors p)) (λ p. leb-suc-suc k (survivors p)) ls)

-- What exactly and at least have in common: the steps for one life in front, with c = 0 for exactly and c = 1 for at least.
record Stepped {F : Type 0} (s : Semi F) (c : F) (E : ℕ → List (Life F) → F) : Type 0 where
  zero_cons : (l : Life F) (ls : List (Life F)) → E 0 (l ∷ ls) ≡ s.times (s.plus (s.times c l.alive) l.dead) (E 0 ls)
  suc_cons : (k : ℕ) (l : Life F) (ls : List (Life F)) → E (suc k) (l ∷ ls) ≡ s.plus (s.times l.alive (E k ls)) (s.times l.dead (E (suc k) ls))

module _ {F : Type 0} {s : Semi F} (L : SemiLaws s) {c : F} {E : ℕ → List (Life F) → F} (S : Stepped s c E) where
  -- The lists behind the life l, and before it, go through the same step.
  module _ (l : Life F) (ys : List (Life F)) where
    stepped_zero_at : (xs : List (Life F)) → E 0 (xs ++ (l ∷ ys)) ≡ s.times (s.plus (s.times c l.alive) l.dead) (E 0 (xs ++ ys))
    stepped_zero_at [] = S.zero_cons l ys
    stepped_zero_at (x ∷ xs) =
        let u = s.plus (s.times c x.alive) x.dead in
        let v = s.plus (s.times c l.alive) l.dead in
        S.zero_cons x (xs ++ (l ∷ ys))
        ∙ ap (s.times u) (stepped_zero_at xs)
        ∙ semiring L (u ∷ v ∷ E 0 (xs ++ ys) ∷ []) (search made depth 40 fits 100000) tt
        ∙ ap (s.times v) (sym (S.zero_cons x (xs ++ ys)))

    stepped_suc_at : (k : ℕ) (xs : List (Life F)) → E (suc k) (xs ++ (l ∷ ys)) ≡ s.plus (s.times l.alive (E k (xs ++ ys))) (s.times l.dead (E (suc k) (xs ++ ys)))
    stepped_suc_at k [] = S.suc_cons k l ys
    stepped_suc_at zero (x ∷ xs) =
        S.suc_cons 0 x (xs ++ (l ∷ ys))
        ∙ ap₂ (λ u v. s.plus (s.times x.alive u) (s.times x.dead v)) (stepped_zero_at xs) (stepped_suc_at 0 xs)
        ∙ semiring L (x.alive ∷ x.dead ∷ l.alive ∷ l.dead ∷ c ∷ E 0 (xs ++ ys) ∷ E 1 (xs ++ ys) ∷ []) (search made depth 40 fits 100000) tt
        ∙ ap₂ (λ u v. s.plus (s.times l.alive u) (s.times l.dead v)) (sym (S.zero_cons x (xs ++ ys))) (sym (S.suc_cons 0 x (xs ++ ys)))
    stepped_suc_at (suc k) (x ∷ xs) =
        S.suc_cons (suc k) x (xs ++ (l ∷ ys))
        ∙ ap₂ (λ u v. s.plus (s.times x.alive u) (s.times x.dead v)) (stepped_suc_at k xs) (stepped_suc_at (suc k) xs)
        ∙ semiring L (x.alive ∷ x.dead ∷ l.alive ∷ l.dead ∷ E k (xs ++ ys) ∷ E (suc k) (xs ++ ys) ∷ E (suc (suc k)) (xs ++ ys) ∷ []) (search made depth 40 fits 100000) tt
        ∙ ap₂ (λ u v. s.plus (s.times l.alive u) (s.times l.dead v)) (sym (S.suc_cons k x (xs ++ ys))) (sym (S.suc_cons (suc k) x (xs ++ ys)))

module _ {F : Type 0} {s : Semi F} (L : SemiLaws s) where
  stepped_exactly : Stepped s s.zero (exactly s)
  stepped_exactly = record {
    zero_cons = λ l ls. exactly_zero_cons L l ls ∙ semiring L (l.alive ∷ l.dead ∷ exactly s 0 ls ∷ []) (search made depth 40 fits 100000) tt;
    suc_cons = exactly_suc_cons L;
  }

  stepped_at_least : Stepped s s.one (at_least s)
  stepped_at_least = record {
    zero_cons = λ l ls. at_least_zero_cons L l ls ∙ semiring L (l.alive ∷ l.dead ∷ at_least s 0 ls ∷ []) (search made depth 40 fits 100000) tt;
    suc_cons = at_least_suc_cons L;
  }

  -- More alive than there are lives.
  pub exactly_beyond : (k : ℕ) (ls : List (Life F)) → length ls < k → exactly s k ls ≡ s.zero
  exactly_beyond zero ls h = absurd (not-suc-le-zero h)
  exactly_beyond (suc k) [] h = exactly_suc_nil L k
  exactly_beyond (suc k) (l ∷ ls) h =
      exactly_suc_cons L k l ls
      ∙ ap₂ (λ x y. s.plus (s.times l.alive x) (s.times l.dead y)) (exactly_beyond k ls (le_of_suc-le-suc h)) (exactly_beyond (suc k) ls (omega arith))
      ∙ semiring L (l.alive ∷ l.dead ∷ []) (search made depth 40 fits 100000) tt

  -- A life anywhere; with ys = [], at the end.
  module _ (l : Life F) (xs ys : List (Life F)) where
    pub exactly_zero_at : exactly s 0 (xs ++ (l ∷ ys)) ≡ s.times l.dead (exactly s 0 (xs ++ ys))
    exactly_zero_at = stepped_zero_at L stepped_exactly l ys xs ∙ semiring L (l.alive ∷ l.dead ∷ exactly s 0 (xs ++ ys) ∷ []) (search made depth 40 fits 100000) tt

    pub exactly_suc_at : (k : ℕ) → exactly s (suc k) (xs ++ (l ∷ ys)) ≡ s.plus (s.times l.alive (exactly s k (xs ++ ys))) (s.times l.dead (exactly s (suc k) (xs ++ ys)))
    exactly_suc_at k = stepped_suc_at L stepped_exactly l ys k xs

    pub at_least_suc_at : (k : ℕ) → at_least s (suc k) (xs ++ (l ∷ ys)) ≡ s.plus (s.times l.alive (at_least s k (xs ++ ys))) (s.times l.dead (at_least s (suc k) (xs ++ ys)))
    at_least_suc_at k = stepped_suc_at L stepped_at_least l ys k xs

  -- At least k is exactly k, or more.
  pub at_least_split : (k : ℕ) (ls : List (Life F)) → at_least s k ls ≡ s.plus (exactly s k ls) (at_least s (suc k) ls)
  at_least_split zero [] = at_least_zero_nil L ∙ sym (ap₂ s.plus (exactly_zero_nil L) (at_least_suc_nil L 0) ∙ L.plus_zero s.one)
  at_least_split (suc k) [] = at_least_suc_nil L k ∙ sym (ap₂ s.plus (exactly_suc_nil L k) (at_least_suc_nil L (suc k)) ∙ L.plus_zero s.zero)
  at_least_split zero (l ∷ ls) =
      let a = l.alive in
      let d = l.dead in
      let one = exactly s 0 ls in
      let more = at_least s 1 ls in
      let step : s.times (s.plus a d) (s.plus one more) ≡ s.plus (s.times d one) (s.plus (s.times a (s.plus one more)) (s.times d more)) = semiring L (a ∷ d ∷ one ∷ more ∷ []) (search made depth 40 fits 100000) tt in
      at_least_zero_cons L l ls
      ∙ subst (λ x. s.times (s.plus a d) x ≡ s.plus (s.times d one) (s.plus (s.times a x) (s.times d more))) (sym (at_least_split 0 ls)) step
      ∙ sym (ap₂ s.plus (exactly_zero_cons L l ls) (at_least_suc_cons L 0 l ls))
  at_least_split (suc k) (l ∷ ls) =
      let a = l.alive in
      let d = l.dead in
      at_least_suc_cons L k l ls
      ∙ ap₂ (λ x y. s.plus (s.times a x) (s.times d y)) (at_least_split k ls) (at_least_split (suc k) ls)
      ∙ semiring L (a ∷ d ∷ exactly s k ls ∷ exactly s (suc k) ls ∷ at_least s (suc k) ls ∷ at_least s (suc (suc k)) ls ∷ []) (search made depth 40 fits 100000) tt
      ∙ sym (ap₂ s.plus (exactly_suc_cons L k l ls) (at_least_suc_cons L (suc k) l ls))
