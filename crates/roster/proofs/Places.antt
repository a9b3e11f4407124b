-- Where a number stands among the lives.
use Rattle.std.proofs.Common.{◌≡◌, ℕ, zero, suc, ◌+◌, ◌<◌, Bool, true, false, cond, ◌||◌, eqb, ◌≢◌, ◌⊎◌, List, [], ◌∷◌, ◌++◌, length, get_or, take, Some, None, Option, sym, refl, ap, ◌∙◌, ap₂, inl, inr, add-one, arith}
use Rattle.std.specs.Option.{option_or, is_some}
use Rattle.std.proofs.Math.Seq.{take-length}
use Rattle.std.proofs.lemmas.Bool.{eq-eqb, eqb-true, ne_eqb, cases_Bool, cond-true, cond-false, or_left}
use Rattle.std.proofs.lemmas.Option.{none-some, same_Some}
use Rattle.roster.specs.Ledger.{Member, numbers, present, further, place_of, without, changed}

-- One life more to search in: the one at place i, counted from 0, with the number x.
place_more : {F : Type 0} (n : ℕ) (lives : List (Member F)) (i x : ℕ) → i < length lives → x ≡ get_or (numbers lives) i 0
    → place_of n (take (suc i) lives) ≡ option_or (place_of n (take i lives)) (cond (eqb x n) (Some (suc i)) None)
place_more n [] i x h e = absurd (omega arith)
place_more n (m ∷ ms) zero x h e = ap (λ y. cond (eqb y n) (Some 1) None) (sym e)
place_more n (m ∷ ms) (suc i) x h e =
    ap (λ p. cond (eqb m.number n) (Some 1) (further p)) (place_more n ms i x (omega arith) e)
    ∙ both (eqb m.number n) (eqb x n) (place_of n (take i ms))
    ∙ ap (λ k. option_or (cond (eqb m.number n) (Some 1) (further (place_of n (take i ms)))) (cond (eqb x n) (Some k) None)) (add-one (suc i))
  where
    both : (t b : Bool) (p : Option ℕ) → cond t (Some 1) (further (option_or p (cond b (Some (suc i)) None))) ≡ option_or (cond t (Some 1) (further p)) (cond b (Some (suc i + 1)) None)
    both true b p = refl
    both false true None = refl
    both false false None = refl
    both false b (Some k) = refl

module _ {F : Type 0} (n : ℕ) (lives : List (Member F)) (i x : ℕ) (h : i < length lives) (is : x ≡ get_or (numbers lives) i 0) where
  pub place_here : x ≡ n → place_of n (take (i + 1) lives) ≡ option_or (place_of n (take i lives)) (Some (i + 1))
  place_here e = rw add-one (place_more n lives i x h is ∙ ap (option_or (place_of n (take i lives))) (cond-true (eqb x n) (Some (suc i)) None (eq-eqb x n e)))

  pub place_later : x ≢ n → place_of n (take (i + 1) lives) ≡ place_of n (take i lives)
  place_later ne = rw add-one (place_more n lives i x h is ∙ ap (option_or (place_of n (take i lives))) (cond-false (eqb x n) (Some (suc i)) None (ne_eqb x n ne)) ∙ or_none (place_of n (take i lives)))
    where
      or_none : (p : Option ℕ) → option_or p None ≡ p
      or_none None = refl
      or_none (Some k) = refl

-- A search that has come to the end of the lives: the count and the place.
pub searched : {F : Type 0} (n : ℕ) (lives : List (Member F)) (i count : ℕ) (place : Option ℕ) → count ≡ i → place ≡ place_of n (take i lives) → i ≡ length lives
    → (count ≡ length lives) × (place ≡ place_of n lives)
searched n lives i count place counted sought end =
    (counted ∙ end, sought ∙ ap (λ k. place_of n (take k lives)) end ∙ ap (place_of n) (take-length lives))

-- The numbers that are present are those that have a place.
pub present_is : {F : Type 0} (n : ℕ) (lives : List (Member F)) → present n lives ≡ is_some (place_of n lives)
present_is n [] = refl
present_is n (m ∷ ms) = at (present_is n ms) (cases_Bool (eqb m.number n))
  where
    same : (p : Option ℕ) → is_some p ≡ is_some (further p)
    same None = refl
    same (Some k) = refl

    at : present n ms ≡ is_some (place_of n ms) → (eqb m.number n ≡ true) ⊎ (eqb m.number n ≡ false) → present n (m ∷ ms) ≡ is_some (place_of n (m ∷ ms))
    at rest (inl t) = or_left (eqb m.number n) (present n ms) t ∙ ap is_some (sym (cond-true (eqb m.number n) (Some 1) (further (place_of n ms)) t))
    at rest (inr f) = ap₂ ◌||◌ f rest ∙ same (place_of n ms) ∙ ap is_some (sym (cond-false (eqb m.number n) (Some 1) (further (place_of n ms)) f))

-- The lives around the one at a place.
pub record Around {F : Type 0} (n : ℕ) (lives : List (Member F)) (place : ℕ) : Type 0 where
  pub before : List (Member F)
  pub life : Member F
  pub after : List (Member F)
  pub are : lives ≡ before ++ (life ∷ after)
  pub here : place ≡ length before + 1
  pub gone : without n lives ≡ before ++ after
  pub anew : (x : F) → changed n x lives ≡ before ++ (record { number = n; figure = x } ∷ after)
  pub named : life.number ≡ n

pub around : {F : Type 0} (n : ℕ) (lives : List (Member F)) (place : ℕ) → place_of n lives ≡ Some place → Around n lives place
around n [] place e = absurd (none-some place e)
around {F} n (m ∷ ms) place e = at (around n ms) (cases_Bool (eqb m.number n))
  where
    deeper : ((k : ℕ) → place_of n ms ≡ Some k → Around n ms k) → (p : Option ℕ) → place_of n ms ≡ p → further p ≡ Some place → eqb m.number n ≡ false → Around n (m ∷ ms) place
    deeper rest None is f differs = absurd (none-some place f)
    deeper rest (Some k) is f differs =
        let a : Around n ms k = rest k is in
        let k-is : k + 1 ≡ place = same_Some (k + 1) place f in
        record {
          before = m ∷ a.before;
          life = a.life;
          after = a.after;
          are = ap (λ xs. m ∷ xs) a.are;
          here = omega (arith, k-is, a.here);
          gone = cond-false (eqb m.number n) ms (m ∷ without n ms) differs ∙ ap (λ xs. m ∷ xs) a.gone;
          anew = λ x. cond-false (eqb m.number n) (record { number = n; figure = x } ∷ ms) (m ∷ changed n x ms) differs ∙ ap (λ xs. m ∷ xs) (a.anew x);
          named = a.named;
        }

    at : ((k : ℕ) → place_of n ms ≡ Some k → Around n ms k) → (eqb m.number n ≡ true) ⊎ (eqb m.number n ≡ false) → Around n (m ∷ ms) place
    at rest (inl t) =
        let one : 1 ≡ place = same_Some 1 place (sym (cond-true (eqb m.number n) (Some 1) (further (place_of n ms)) t) ∙ e) in
        record {
          before = [];
          life = m;
          after = ms;
          are = refl;
          here = omega (arith, one);
          gone = cond-true (eqb m.number n) ms (m ∷ without n ms) t;
          anew = λ x. cond-true (eqb m.number n) (record { number = n; figure = x } ∷ ms) (m ∷ changed n x ms) t;
          named = eqb-true m.number n t;
        }
    at rest (inr f) = deeper rest (place_of n ms) refl (sym (cond-false (eqb m.number n) (Some 1) (further (place_of n ms)) f) ∙ e) f
