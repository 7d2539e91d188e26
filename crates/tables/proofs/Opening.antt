-- Which circuits the standing notices name. Assumes nothing.
use Rattle.std.proofs.Common.{◌≡◌, ℕ, ◌↔◌, Bool, true, false, not, IsTrue, eqb, List, [], ◌∷◌, ◌||◌, map, sym, refl, ap, ◌∙◌, inl, inr, arith}
use Rattle.std.specs.List.{list_any}
use Rattle.std.proofs.lemmas.List.Recursion.{same_from_clauses}
use Rattle.std.proofs.lemmas.Bool.{or_parts, or_cases, eqb-true, eqb-false, false≢true, not-true, cases_Bool}
use Rattle.std.proofs.lemmas.Bool.Decides.{nat_tests}
use Rattle.network.specs.Routes.{Each, uses}
use Rattle.promise.specs.Ledger as ledger
use Rattle.tables.specs.declared.rows.Notice.{Notice}
use Rattle.tables.specs.Standing.{notice_of}

eqb_sym : (a b : ℕ) → eqb a b ≡ eqb b a
eqb_sym a b = grind (arith, nat_tests)

-- the circuits that the notices name
abbrev pub named : List Notice → List ℕ
named xs = map (λ (x : Notice). x.circuit) xs

-- a notice names the circuit where the circuit is one of those named
pub named_any : (c : ℕ) (xs : List Notice) → list_any (λ x. eqb x.circuit c) xs ≡ uses c (named xs)
named_any c = same_from_clauses (list_any (λ x. eqb x.circuit c)) (λ xs. uses c (named xs)) (λ x b. eqb c x.circuit || b) refl (λ x xs. ap (λ b. b || list_any (λ y. eqb y.circuit c) xs) (eqb_sym x.circuit c)) (λ _ _. refl)

-- no notice of the list names the circuit
abbrev pub Unnamed : ℕ → List Notice → Type 0
Unnamed c xs = Each (λ (x : ledger.Notice). x.circuit ≡ c → ⊥) (map notice_of xs)

pub unnamed_from_unused : (c : ℕ) (xs : List Notice) → uses c (named xs) ≡ false → Unnamed c xs
unnamed_from_unused c [] e = tt
unnamed_from_unused c (x ∷ xs) e =
    let (here, later) = or_parts (eqb c x.circuit) (uses c (named xs)) e in
    (λ same. eqb-false c x.circuit here (sym same), unnamed_from_unused c xs later)

pub used_not_unnamed : (c : ℕ) (xs : List Notice) → uses c (named xs) ≡ true → Unnamed c xs → ⊥
used_not_unnamed c [] e none = false≢true e
used_not_unnamed c (x ∷ xs) e (apart, rest) =
    elim (or_cases (eqb c x.circuit) (uses c (named xs)) e) [
      | inl here ↦ apart (sym (eqb-true c x.circuit here))
      | inr later ↦ used_not_unnamed c xs later rest
    ]

-- whether a notice names the circuit tells whether it is open
pub open_where_unused : (c : ℕ) (xs : List Notice) (b : Bool) → b ≡ uses c (named xs) → IsTrue (not b) ↔ Unnamed c xs
open_where_unused c xs b found = (
  λ e. unnamed_from_unused c xs (sym found ∙ not-true b e),
  λ none. elim (cases_Bool b) [ inl e ↦ absurd (used_not_unnamed c xs (sym found ∙ e) none) | inr e ↦ ap not e ],
)
