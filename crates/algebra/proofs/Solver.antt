-- Equations that hold in every commutative semiring or ring, proved by computing. A proof is one line:
--     ring L (a ∷ b ∷ c ∷ []) (search made depth 40 fits 100000) tt
-- with the atoms in the list; `semiring` is called the same way.
use Rattle.std.proofs.Common.{◌≡◌, ℕ, zero, suc, Bool, true, false, cond, T, eqb, leb, List, [], ◌∷◌, ◌++◌, get_or, sym, refl, ap, ◌∙◌, subst, ap₂, subst₂, eqb→eq}
use Rattle.algebra.specs.Ring.{Ops, Laws, Semi, semi}
use Rattle.algebra.proofs.Semiring.{SemiLaws, zero_plus, laws_semi, plus_undo, plus_cancel}

-- How a value is made from the atoms xs. The family is indexed by the value, so that `search` reads the expression off it.
pub data Member {F : Type 0} : List F → F → Type 0 where
  here : {x : F} {xs : List F} → Member (x ∷ xs) x
  there : {x y : F} {xs : List F} → Member xs x → Member (y ∷ xs) x

pub data Sum {F : Type 0} (s : Semi F) (xs : List F) : F → Type 0 where
  s_zero : Sum s xs s.zero
  s_one : Sum s xs s.one
  s_plus : {x y : F} → Sum s xs x → Sum s xs y → Sum s xs (s.plus x y)
  s_times : {x y : F} → Sum s xs x → Sum s xs y → Sum s xs (s.times x y)
  s_atom : {x : F} → Member xs x → Sum s xs x

pub data Made {F : Type 0} (o : Ops F) (xs : List F) : F → Type 0 where
  m_zero : Made o xs o.zero
  m_one : Made o xs o.one
  m_plus : {x y : F} → Made o xs x → Made o xs y → Made o xs (o.plus x y)
  m_minus : {x : F} → Made o xs x → Made o xs (o.minus x)
  m_times : {x y : F} → Made o xs x → Made o xs y → Made o xs (o.times x y)
  m_atom : {x : F} → Member xs x → Made o xs x

-- The two sides of an equation.
pub data Sums {F : Type 0} (s : Semi F) (xs : List F) : F → F → Type 0 where
  sums : {x y : F} → Sum s xs x → Sum s xs y → Sums s xs x y

pub data Sides {F : Type 0} (o : Ops F) (xs : List F) : F → F → Type 0 where
  sides : {x y : F} → Made o xs x → Made o xs y → Sides o xs x y

pub ruleset made = (sums, s_plus, s_times, s_zero, s_one, s_atom, sides, m_plus, m_minus, m_times, m_zero, m_one, m_atom, here, there)

-- A monomial is the sorted list of its atoms' numbers, and a polynomial the list of its monomials, each as often as it occurs.
abbrev pub Monomial : Type 0
Monomial = List ℕ

abbrev pub Polynomial : Type 0
Polynomial = List Monomial

abbrev pub insert : ℕ → Monomial → Monomial
insert n [] = n ∷ []
insert n (m ∷ ms) = cond (leb n m) (n ∷ m ∷ ms) (m ∷ insert n ms)

abbrev pub join : Monomial → Monomial → Monomial
join [] ns = ns
join (m ∷ ms) ns = insert m (join ms ns)

abbrev pub scale : Monomial → Polynomial → Polynomial
scale m [] = []
scale m (n ∷ q) = join m n ∷ scale m q

abbrev pub product : Polynomial → Polynomial → Polynomial
product [] q = []
product (m ∷ p) q = scale m q ++ product p q

abbrev pub place : {F : Type 0} {xs : List F} {x : F} → Member xs x → ℕ
place here = zero
place (there m) = suc (place m)

abbrev pub polynomial : {F : Type 0} {s : Semi F} {xs : List F} {x : F} → Sum s xs x → Polynomial
polynomial s_zero = []
polynomial s_one = [] ∷ []
polynomial (s_plus r t) = polynomial r ++ polynomial t
polynomial (s_times r t) = product (polynomial r) (polynomial t)
polynomial (s_atom m) = (place m ∷ []) ∷ []

-- Equality of polynomials: each monomial of one is looked for in the other and taken out there.
abbrev pub same : Monomial → Monomial → Bool
same [] [] = true
same [] (n ∷ ns) = false
same (m ∷ ms) [] = false
same (m ∷ ms) (n ∷ ns) = cond (eqb m n) (same ms ns) false

pub data Rest : Type 0 where
  found : Polynomial → Rest
  missing : Rest

abbrev pub put : Monomial → Rest → Rest
put n (found q) = found (n ∷ q)
put n missing = missing

abbrev pub take_out : Monomial → Polynomial → Rest
take_out m [] = missing
take_out m (n ∷ q) = cond (same m n) (found q) (put n (take_out m q))

-- An empty type that shows what is left of the two sides where they differ.
pub data Differ : Polynomial → Polynomial → Type 0 where

-- What is not found on the right is put aside, so that `Differ` shows no more than the difference.
abbrev pub Compare : Polynomial → Polynomial → Polynomial → Type 0
Compare [] [] [] = Unit {0}
Compare [] [] (n ∷ q) = Differ [] (n ∷ q)
Compare (m ∷ aside) [] q = Differ (m ∷ aside) q
Compare aside (m ∷ p) q = elim (take_out m q) [ found r ↦ Compare aside p r | missing ↦ Compare (m ∷ aside) p q ]

abbrev pub Equal : Polynomial → Polynomial → Type 0
Equal p q = Compare [] p q

abbrev pub EqualSums : {F : Type 0} {s : Semi F} {xs : List F} {x y : F} → Sums s xs x y → Type 0
EqualSums (sums r t) = Equal (polynomial r) (polynomial t)

same_sound : (m n : Monomial) → T (same m n) → m ≡ n
same_sound [] [] t = refl
same_sound [] (n ∷ ns) t = absurd t
same_sound (m ∷ ms) [] t = absurd t
same_sound (m ∷ ms) (n ∷ ns) t = both (eqb m n) (eqb→eq m n) (same_sound ms ns) t
  where
    both : (b : Bool) → (T b → m ≡ n) → (T (same ms ns) → ms ≡ ns) → T (cond b (same ms ns) false) → m ∷ ms ≡ n ∷ ns
    both true e f t = ap₂ ◌∷◌ (e tt) (f t)
    both false e f t = absurd t

-- What the lists stand for, over the atoms xs.
module _ {F : Type 0} (s : Semi F) (xs : List F) where
  abbrev value_of : Monomial → F
  value_of [] = s.one
  value_of (n ∷ ms) = s.times (get_or xs n s.zero) (value_of ms)

  abbrev sum_of : Polynomial → F
  sum_of [] = s.zero
  sum_of (m ∷ p) = s.plus (value_of m) (sum_of p)

  abbrev Leaves : Monomial → Polynomial → Rest → Type 0
  Leaves m q (found r) = sum_of q ≡ s.plus (value_of m) (sum_of r)
  Leaves m q missing = Unit {0}

module _ {F : Type 0} {s : Semi F} (L : SemiLaws s) where
  zero_times : (x : F) → s.times s.zero x ≡ s.zero
  zero_times x = L.times_comm s.zero x ∙ L.times_zero x

  plus_times : (x y z : F) → s.times (s.plus x y) z ≡ s.plus (s.times x z) (s.times y z)
  plus_times x y z = L.times_comm (s.plus x y) z ∙ L.times_plus z x y ∙ ap₂ s.plus (L.times_comm z x) (L.times_comm z y)

  exchange : (op : F → F → F) → ((x y : F) → op x y ≡ op y x) → ((x y z : F) → op (op x y) z ≡ op x (op y z)) → (x y z : F) → op x (op y z) ≡ op y (op x z)
  exchange op comm assoc x y z = sym (assoc x y z) ∙ ap (λ w. op w z) (comm x y) ∙ assoc y x z

  module _ (xs : List F) where
    abbrev at : ℕ → F
    at n = get_or xs n s.zero

    insert_value : (n : ℕ) (ms : Monomial) → value_of s xs (insert n ms) ≡ s.times (at n) (value_of s xs ms)
    insert_value n [] = refl
    insert_value n (m ∷ ms) = either (leb n m) (ap (s.times (at m)) (insert_value n ms) ∙ exchange s.times L.times_comm L.times_assoc (at m) (at n) (value_of s xs ms))
      where
        either : (b : Bool) → value_of s xs (m ∷ insert n ms) ≡ value_of s xs (n ∷ m ∷ ms) → value_of s xs (cond b (n ∷ m ∷ ms) (m ∷ insert n ms)) ≡ value_of s xs (n ∷ m ∷ ms)
        either true e = refl
        either false e = e

    join_value : (ms ns : Monomial) → value_of s xs (join ms ns) ≡ s.times (value_of s xs ms) (value_of s xs ns)
    join_value [] ns = sym (L.times_comm s.one (value_of s xs ns) ∙ L.times_one (value_of s xs ns))
    join_value (m ∷ ms) ns = insert_value m (join ms ns) ∙ ap (s.times (at m)) (join_value ms ns) ∙ sym (L.times_assoc (at m) (value_of s xs ms) (value_of s xs ns))

    append_value : (p q : Polynomial) → sum_of s xs (p ++ q) ≡ s.plus (sum_of s xs p) (sum_of s xs q)
    append_value [] q = sym (zero_plus L (sum_of s xs q))
    append_value (m ∷ p) q = ap (s.plus (value_of s xs m)) (append_value p q) ∙ sym (L.plus_assoc (value_of s xs m) (sum_of s xs p) (sum_of s xs q))

    scale_value : (m : Monomial) (q : Polynomial) → sum_of s xs (scale m q) ≡ s.times (value_of s xs m) (sum_of s xs q)
    scale_value m [] = sym (L.times_zero (value_of s xs m))
    scale_value m (n ∷ q) = ap₂ s.plus (join_value m n) (scale_value m q) ∙ sym (L.times_plus (value_of s xs m) (value_of s xs n) (sum_of s xs q))

    product_value : (p q : Polynomial) → sum_of s xs (product p q) ≡ s.times (sum_of s xs p) (sum_of s xs q)
    product_value [] q = sym (zero_times (sum_of s xs q))
    product_value (m ∷ p) q = append_value (scale m q) (product p q) ∙ ap₂ s.plus (scale_value m q) (product_value p q) ∙ sym (plus_times (value_of s xs m) (sum_of s xs p) (sum_of s xs q))

    take_out_value : (m : Monomial) (q : Polynomial) → Leaves s xs m q (take_out m q)
    take_out_value m [] = tt
    take_out_value m (n ∷ q) = either (same m n) (same_sound m n) (take_out m q) (take_out_value m q)
      where
        either : (b : Bool) → (T b → m ≡ n) → (r : Rest) → Leaves s xs m q r → Leaves s xs m (n ∷ q) (cond b (found q) (put n r))
        either true e r h = ap (λ k. s.plus (value_of s xs k) (sum_of s xs q)) (sym (e tt))
        either false e (found r) h = ap (s.plus (value_of s xs n)) h ∙ exchange s.plus L.plus_comm L.plus_assoc (value_of s xs n) (value_of s xs m) (sum_of s xs r)
        either false e missing h = tt

    compare_value : (aside p q : Polynomial) → Compare aside p q → s.plus (sum_of s xs aside) (sum_of s xs p) ≡ sum_of s xs q
    compare_value [] [] [] h = L.plus_zero s.zero
    compare_value [] [] (n ∷ q) h = elim h [ ]
    compare_value (m ∷ aside) [] q h = elim h [ ]
    compare_value aside (m ∷ p) q h = go (take_out m q) (take_out_value m q) (compare_value aside p) (compare_value (m ∷ aside) p q) h
      where
        turned : s.plus (sum_of s xs aside) (sum_of s xs (m ∷ p)) ≡ s.plus (value_of s xs m) (s.plus (sum_of s xs aside) (sum_of s xs p))
        turned = exchange s.plus L.plus_comm L.plus_assoc (sum_of s xs aside) (value_of s xs m) (sum_of s xs p)

        go : (r : Rest) → Leaves s xs m q r → ((r : Polynomial) → Compare aside p r → s.plus (sum_of s xs aside) (sum_of s xs p) ≡ sum_of s xs r) → (Compare (m ∷ aside) p q → s.plus (sum_of s xs (m ∷ aside)) (sum_of s xs p) ≡ sum_of s xs q) → elim r as (λ _. Type 0) [ found r ↦ Compare aside p r | missing ↦ Compare (m ∷ aside) p q ] → s.plus (sum_of s xs aside) (sum_of s xs (m ∷ p)) ≡ sum_of s xs q
        go (found r) e there-is none h = turned ∙ ap (s.plus (value_of s xs m)) (there-is r h) ∙ sym e
        go missing e there-is none h = turned ∙ sym (L.plus_assoc (value_of s xs m) (sum_of s xs aside) (sum_of s xs p)) ∙ none h

    equal_value : (p q : Polynomial) → Equal p q → sum_of s xs p ≡ sum_of s xs q
    equal_value p q h = sym (zero_plus L (sum_of s xs p)) ∙ compare_value [] p q h

  place_value : {xs : List F} {x : F} (m : Member xs x) → at xs (place m) ≡ x
  place_value here = refl
  place_value (there m) = place_value m

  polynomial_value : {xs : List F} {x : F} (r : Sum s xs x) → sum_of s xs (polynomial r) ≡ x
  polynomial_value s_zero = refl
  polynomial_value s_one = L.plus_zero s.one
  polynomial_value {xs} (s_plus r t) = append_value xs (polynomial r) (polynomial t) ∙ ap₂ s.plus (polynomial_value r) (polynomial_value t)
  polynomial_value {xs} (s_times r t) = product_value xs (polynomial r) (polynomial t) ∙ ap₂ s.times (polynomial_value r) (polynomial_value t)
  polynomial_value (s_atom m) = L.plus_zero _ ∙ L.times_one _ ∙ place_value m

  pub semiring : (xs : List F) {x y : F} (e : Sums s xs x y) → EqualSums e → x ≡ y
  semiring xs (sums r t) h = sym (polynomial_value r) ∙ equal_value xs (polynomial r) (polynomial t) h ∙ polynomial_value t

-- With negatives: a value is the difference of two polynomials.
pub record Parts : Type 0 where
  pub for : Polynomial
  pub against : Polynomial

abbrev pub swap_parts : Parts → Parts
swap_parts p = record { for = p.against; against = p.for }

abbrev pub plus_parts : Parts → Parts → Parts
plus_parts p q = record { for = p.for ++ q.for; against = p.against ++ q.against }

abbrev pub times_parts : Parts → Parts → Parts
times_parts p q = record { for = product p.for q.for ++ product p.against q.against; against = product p.for q.against ++ product p.against q.for }

abbrev pub parts : {F : Type 0} {o : Ops F} {xs : List F} {x : F} → Made o xs x → Parts
parts m_zero = record { for = []; against = [] }
parts m_one = record { for = [] ∷ []; against = [] }
parts (m_plus r t) = plus_parts (parts r) (parts t)
parts (m_minus r) = swap_parts (parts r)
parts (m_times r t) = times_parts (parts r) (parts t)
parts (m_atom m) = record { for = (place m ∷ []) ∷ []; against = [] }

abbrev pub EqualSides : {F : Type 0} {o : Ops F} {xs : List F} {x y : F} → Sides o xs x y → Type 0
EqualSides (sides r t) = Equal ((parts r).for ++ (parts t).against) ((parts t).for ++ (parts r).against)

module _ {F : Type 0} {o : Ops F} (L : Laws o) where
  abbrev S : SemiLaws (semi o)
  S = laws_semi L

  -- x stands for the difference of the two polynomials.
  abbrev Stands : List F → F → Parts → Type 0
  Stands xs x p = o.plus x (sum_of (semi o) xs p.against) ≡ sum_of (semi o) xs p.for

  stands_minus : (x n p : F) → o.plus x n ≡ p → o.plus (o.minus x) p ≡ n
  stands_minus x n p e = subst (λ q. o.plus (o.minus x) q ≡ n) e (L.plus_comm (o.minus x) (o.plus x n) ∙ ap (λ w. o.plus w (o.minus x)) (L.plus_comm x n) ∙ plus_undo L n x)

  stands_plus : (x y n m p q : F) → o.plus x n ≡ p → o.plus y m ≡ q → o.plus (o.plus x y) (o.plus n m) ≡ o.plus p q
  stands_plus x y n m p q e f = semiring S (x ∷ y ∷ n ∷ m ∷ []) (search made depth 40 fits 100000) tt ∙ ap₂ o.plus e f

  stands_times : (x y n m p q : F) → o.plus x n ≡ p → o.plus y m ≡ q → o.plus (o.times x y) (o.plus (o.times p m) (o.times n q)) ≡ o.plus (o.times p q) (o.times n m)
  stands_times x y n m p q e f = subst₂ (λ u v. o.plus (o.times x y) (o.plus (o.times u m) (o.times n v)) ≡ o.plus (o.times u v) (o.times n m)) e f (semiring S (x ∷ y ∷ n ∷ m ∷ []) (search made depth 40 fits 100000) tt)

  stands_equal : (x y n m p q : F) → o.plus x n ≡ p → o.plus y m ≡ q → o.plus p m ≡ o.plus q n → x ≡ y
  stands_equal x y n m p q e f h =
      let left : o.plus x (o.plus n m) ≡ o.plus p m = sym (L.plus_assoc x n m) ∙ ap (λ w. o.plus w m) e in
      let right : o.plus y (o.plus n m) ≡ o.plus q n = ap (o.plus y) (L.plus_comm n m) ∙ sym (L.plus_assoc y m n) ∙ ap (λ w. o.plus w n) f in
      plus_cancel L x y (o.plus n m) (left ∙ h ∙ sym right)

  module _ (xs : List F) where
    abbrev sum : Polynomial → F
    sum p = sum_of (semi o) xs p

    joined : (p q : Polynomial) → sum (p ++ q) ≡ o.plus (sum p) (sum q)
    joined p q = append_value S xs p q

    products : (p q p' q' : Polynomial) → sum (product p q ++ product p' q') ≡ o.plus (o.times (sum p) (sum q)) (o.times (sum p') (sum q'))
    products p q p' q' = joined (product p q) (product p' q') ∙ ap₂ o.plus (product_value S xs p q) (product_value S xs p' q')

  stands : {xs : List F} {x : F} (r : Made o xs x) → Stands xs x (parts r)
  stands m_zero = L.plus_zero o.zero
  stands m_one = refl
  stands {xs} (m_plus {x = x} {y = y} r t) =
      let p = parts r in
      let q = parts t in
      ap (o.plus (o.plus x y)) (joined xs p.against q.against) ∙ stands_plus x y _ _ _ _ (stands r) (stands t) ∙ sym (joined xs p.for q.for)
  stands (m_minus {x = x} r) = stands_minus x _ _ (stands r)
  stands {xs} (m_times {x = x} {y = y} r t) =
      let p = parts r in
      let q = parts t in
      ap (o.plus (o.times x y)) (products xs p.for q.against p.against q.for) ∙ stands_times x y _ _ _ _ (stands r) (stands t) ∙ sym (products xs p.for q.for p.against q.against)
  stands (m_atom {x = x} m) = ap (λ w. o.plus w o.zero) (sym (place_value S m) ∙ sym (L.times_one _))

  pub ring : (xs : List F) {x y : F} (e : Sides o xs x y) → EqualSides e → x ≡ y
  ring xs {x} {y} (sides r t) h =
      let p = parts r in
      let q = parts t in
      stands_equal x y _ _ _ _ (stands r) (stands t) (sym (joined xs p.for q.against) ∙ equal_value S xs (p.for ++ q.against) (q.for ++ p.against) h ∙ joined xs q.for p.against)

  -- From a hypothesis h : u ≡ v and a factor c, what holds up to c·(u − v):
  --     by L c h (ring L (..) (search made depth 40 fits 100000) tt)
  pub by : (c : F) {u v x y : F} → u ≡ v → o.plus x (o.times c v) ≡ o.plus y (o.times c u) → x ≡ y
  by c {u} {v} {x} {y} h e = plus_cancel L x y (o.times c u) (ap (λ w. o.plus x (o.times c w)) h ∙ e)
