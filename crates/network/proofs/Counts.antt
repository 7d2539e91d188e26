-- How many routes of a set use a circuit, and which circuits all of them use. Assumes nothing.
use Rattle.std.proofs.Common.{◌≡◌, ℕ, zero, suc, ◌<◌, ◌≤◌, Bool, true, false, cond, List, [], ◌∷◌, length, get_or, sym, refl, subst, inl, inr, arith}
use Rattle.std.proofs.lemmas.Bool.{cond-true, cond-false, cases_Bool, and_parts, and_from}
use Rattle.network.specs.Routes.{uses, times, shared}
use Rattle.network.proofs.Lists.{In}

pub one_more : (b : Bool) → b ≡ true → ◌≡◌ {A = ℕ} (cond b 1 0) 1
one_more b e = cond-true {A = ℕ} b 1 0 e

pub no_more : (b : Bool) → b ≡ false → ◌≡◌ {A = ℕ} (cond b 1 0) 0
no_more b e = cond-false {A = ℕ} b 1 0 e

pub at_most_one : (b : Bool) → cond b 1 0 ≤ 1
at_most_one true = omega arith
at_most_one false = omega arith

-- a circuit that every route uses is used as often as there are routes
pub times_shared : (c : ℕ) (rs : List (List ℕ)) → shared c rs ≡ true → times c rs ≡ length rs
times_shared c [] h = refl
times_shared c (r ∷ rs) h =
    let p = and_parts (uses c r) (shared c rs) h in
    omega (arith, one_more (uses c r) p.0, times_shared c rs p.1)

-- one route of a set, and two, use a circuit no more often than all
pub times_at : (c : ℕ) (rs : List (List ℕ)) (j : ℕ) → j < length rs → cond (uses c (get_or rs j [])) 1 0 ≤ times c rs
times_at c [] j h = absurd (omega (arith, h))
times_at c (r ∷ rs) zero h = omega arith
times_at c (r ∷ rs) (suc j) h = omega (arith, times_at c rs j (omega (arith, h)))

pub times_two : (c : ℕ) (rs : List (List ℕ)) (i j : ℕ) → i < j → j < length rs → times c (get_or rs i [] ∷ get_or rs j [] ∷ []) ≤ times c rs
times_two c [] i j o h = absurd (omega (arith, h))
times_two c (r ∷ rs) i zero o h = absurd (omega (arith, o))
times_two c (r ∷ rs) zero (suc j) o h = omega (arith, times_at c rs j (omega (arith, h)))
times_two c (r ∷ rs) (suc i) (suc j) o h = omega (arith, times_two c rs i j (omega (arith, o)) (omega (arith, h)))

-- a circuit is counted where some route of the set uses it, and only there
pub times_some : (c : ℕ) (rs : List (List ℕ)) (r : List ℕ) → In r rs → uses c r ≡ true → 0 < times c rs
times_some c [] r i u = absurd i
times_some c (x ∷ rs) r (inl e) u = omega (arith, one_more (uses c x) (subst (λ z. uses c z ≡ true) e u))
times_some c (x ∷ rs) r (inr i) u = omega (arith, times_some c rs r i u)

pub some_times : (c : ℕ) (rs : List (List ℕ)) → 0 < times c rs → (r : List ℕ) × In r rs × (uses c r ≡ true)
some_times c [] h = absurd (omega arith)
some_times c (x ∷ rs) h = elim (cases_Bool (uses c x)) [
  | inl e ↦ (x, inl refl, e)
  | inr e ↦ let r = some_times c rs (omega (arith, no_more (uses c x) e)) in (r.0, inr r.1, r.2)
]

-- what all routes of a set use, each of them uses
pub shared_in : (c : ℕ) (rs : List (List ℕ)) → shared c rs ≡ true → (x : List ℕ) → In x rs → uses c x ≡ true
shared_in c [] h x i = absurd i
shared_in c (r ∷ rs) h x (inl e) = subst (λ z. uses c z ≡ true) (sym e) (and_parts (uses c r) (shared c rs) h).0
shared_in c (r ∷ rs) h x (inr i) = shared_in c rs (and_parts (uses c r) (shared c rs) h).1 x i

pub in_shared : (c : ℕ) (rs : List (List ℕ)) → ((x : List ℕ) → In x rs → uses c x ≡ true) → shared c rs ≡ true
in_shared c [] f = refl
in_shared c (r ∷ rs) f = and_from (uses c r) (shared c rs) (f r (inl refl)) (in_shared c rs (λ x i. f x (inr i)))

-- fewer routes share no less
pub shares_more : (us rs : List (List ℕ)) → ((x : List ℕ) → In x rs → In x us) → (c : ℕ) → shared c us ≡ true → shared c rs ≡ true
shares_more us rs f c h = in_shared c rs (λ x i. shared_in c us h x (f x i))
