-- From what a book answers to what the host's order comes to.
use Rattle.std.proofs.Common.{◌≡◌, ℕ, ◌<◌, ◌≤◌, ◌⊎◌, List, [], ◌∷◌, length, sym, refl, ap, subst, inl, inr, arith}
use Rattle.std.proofs.lemmas.Bool.{cases_lt}
use Rattle.network.specs.declared.refusal.Refusal.{Refusal}
use Rattle.network.specs.declared.refusal.Refusal.TheVariants as refusal
use Rattle.network.specs.Checks.{Check, check, First, Passed}
use Rattle.image.specs.Held.{Loaded}
use Rattle.image_format.specs.Image.{Refused}
use Rattle.network.specs.Network.{Network}
use Rattle.network.specs.Refusals.{number_of}
use Rattle.scale.specs.ThreeScales.{total}
use Rattle.promise.specs.declared.Mode.{Mode}
use Rattle.promise.specs.Ledger.{Ledger, nothing_yet}
use Rattle.promise.specs.Promise.{safest, plan_checks, BadPlaces, BadRate, NoPair}
use Rattle.std.specs.Prelude.{Ok, Err, Result}
use Rattle.std.specs.Result.{IsErrAnd}
use Rattle.host.specs.declared.failure.Failure.{Failure}
use Rattle.host.specs.Status.{status, failure_number}
use Rattle.host.specs.Entry.{Means, network_of, order_checks, Asked, Begun, of_image, of_order, Outcome, answered, refused}

-- a later check that fails first, and a first check that says the same in other words
first_below : (k : ℕ) (p : Check) (xs ys : List Check) → (First k xs → First k ys) → First k (p ∷ xs) → First k (p ∷ ys)
first_below k p xs ys f (inl q) = inl q
first_below k p xs ys f (inr q) = inr (q.0, f q.1)

first_said : (k number : ℕ) (A B : Type 0) (xs : List Check) → (A → B) → (B → A) → First k (check number A ∷ xs) → First k (check number B ∷ xs)
first_said k number A B xs f g (inl q) = inl (q.0, f q.1)
first_said k number A B xs f g (inr q) = inr ((λ b. q.0 (g b)), q.1)

-- what holds of the number of each check holds of the first that fails
first_number : (P : ℕ → Type 0) (k : ℕ) (p : Check) (xs : List Check) → P p.number → (First k xs → P k) → First k (p ∷ xs) → P k
first_number P k p xs a f (inl q) = subst P (sym q.0) a
first_number P k p xs a f (inr q) = f q.1

-- lists of one length that are short just where the output is
module _ (p q size : ℕ) (same : p ≡ q) (short : size < 516 → p < 127) (long : 516 ≤ size → 127 ≤ p) where
  pub output_short : (p < 127) ⊎ (q < 127) → size < 516
  output_short s = elim (cases_lt size 516) [
    | inl h ↦ h
    | inr h ↦ let k = long h in absurd (elim s [ inl a ↦ omega arith | inr a ↦ omega arith ])
  ]

  pub lists_short : size < 516 → (p < 127) ⊎ (q < 127)
  lists_short h = inl (short h)

  -- lists that pass are long enough, and so is the output
  pub room : ((p < 127) ⊎ (q < 127) → ⊥) → (127 ≤ p) × (127 ≤ q) × (516 ≤ size)
  room h = elim (cases_lt size 516) [
    | inl s ↦ absurd (h (inl (short s)))
    | inr s ↦ let k = long s in (omega arith, omega arith, omega arith)
  ]

-- the book's checks with such lists are those of the order
module _ (n : Network) (from to rate : ℕ) (m : Mode) (before : List ℕ) (p q : ℕ) (same : p ≡ q) (short : length before < 516 → p < 127) (long : 516 ≤ length before → 127 ≤ p) where
  pub order_refused : (l : Ledger) (k : ℕ) → l ≡ nothing_yet → First k (plan_checks total n l (check 15 ((p < 127) ⊎ (q < 127))) (safest from to rate m)) → First k (order_checks n from to rate m before)
  order_refused l k e f =
      let none = check 16 (NoPair total n nothing_yet from to m rate) ∷ [] in
      first_below k (check 13 (BadPlaces n from to)) (check 14 (BadRate rate) ∷ check 15 ((p < 127) ⊎ (q < 127)) ∷ none) (check 14 (BadRate rate) ∷ check 15 (length before < 516) ∷ none)
      (first_below k (check 14 (BadRate rate)) (check 15 ((p < 127) ⊎ (q < 127)) ∷ none) (check 15 (length before < 516) ∷ none)
      (first_said k 15 ((p < 127) ⊎ (q < 127)) (length before < 516) none (output_short p q (length before) same short long) (lists_short p q (length before) same short long)))
      (subst (λ z. First k (plan_checks total n z (check 15 ((p < 127) ⊎ (q < 127))) (safest from to rate m))) e f)

  pub order_passed : (l : Ledger) → l ≡ nothing_yet → Passed (plan_checks total n l (check 15 ((p < 127) ⊎ (q < 127))) (safest from to rate m)) → Passed (order_checks n from to rate m before)
  order_passed l e f =
      let g = subst (λ z. Passed (plan_checks total n z (check 15 ((p < 127) ⊎ (q < 127))) (safest from to rate m))) e f in
      (g.0, (g.1.0, ((λ s. g.1.1.0 (lists_short p q (length before) same short long s)), g.1.1.1)))

-- a refusal's number is neither 0 nor 255
abbrev pub Declines : ℕ → Type 0
Declines k = (1 ≤ k) × (k ≤ 18)

first_of_four : (P : ℕ → Type 0) (k : ℕ) (p q r s : Check) → P p.number → P q.number → P r.number → P s.number → First k (p ∷ q ∷ r ∷ s ∷ []) → P k
first_of_four P k p q r s a b c d =
    first_number P k p (q ∷ r ∷ s ∷ []) a (first_number P k q (r ∷ s ∷ []) b (first_number P k r (s ∷ []) c (first_number P k s [] d (λ f. absurd f))))

pub order_number : (n : Network) (from to rate : ℕ) (m : Mode) (before : List ℕ) (k : ℕ) → First k (order_checks n from to rate m before) → Declines k
order_number n from to rate m before k =
    first_of_four Declines k (check 13 (BadPlaces n from to)) (check 14 (BadRate rate)) (check 15 (length before < 516)) (check 16 (NoPair total n nothing_yet from to m rate))
    (omega arith, omega arith) (omega arith, omega arith) (omega arith, omega arith) (omega arith, omega arith)

pub refusal_number : (e : Refusal) → Declines (number_of e)
refusal_number refusal.Short = (omega arith, omega arith)
refusal_number refusal.Mark = (omega arith, omega arith)
refusal_number refusal.Name = (omega arith, omega arith)
refusal_number refusal.Order = (omega arith, omega arith)
refusal_number refusal.Ends = (omega arith, omega arith)
refusal_number refusal.Figure = (omega arith, omega arith)
refusal_number refusal.Full = (omega arith, omega arith)
refusal_number refusal.Tail = (omega arith, omega arith)
refusal_number refusal.Zero = (omega arith, omega arith)
refusal_number refusal.Taken = (omega arith, omega arith)
refusal_number refusal.Unknown = (omega arith, omega arith)
refusal_number refusal.Crowded = (omega arith, omega arith)
refusal_number refusal.Places = (omega arith, omega arith)
refusal_number refusal.Rate = (omega arith, omega arith)
refusal_number refusal.List = (omega arith, omega arith)
refusal_number refusal.NoPair = (omega arith, omega arith)
refusal_number refusal.Limit = (omega arith, omega arith)
refusal_number refusal.Mode = (omega arith, omega arith)

module _ (image before : List ℕ) (from to rate mode : ℕ) (m : Mode) (means : Means mode m) where
  -- a load that is refused
  pub load_refused : (e : Refusal) (offset result : ℕ) → Refused image (number_of e) offset → result ≡ number_of e → Outcome image before from to rate mode before result
  load_refused e offset result r p = subst (λ z. Outcome image before from to rate mode before z) (sym p) (refused (refusal_number e) (of_image m means offset r) refl)

  -- what the order comes to is what the call comes to
  pub concluded : (n : Network) (later : List ℕ) (result : ℕ) → Loaded image n → Asked n from to rate m before later result → Outcome image before from to rate mode later result
  concluded n later result load asked =
      let b : Begun image mode = record { chosen = m; means = means; names = load.names; circuits = load.circuits; loads = load.image } in
      elim (subst (λ z. Asked z from to rate m before later result) load.is asked) [
        | inl a ↦ answered a.0 b a.1
        | inr a ↦ refused (order_number (network_of load.names load.circuits) from to rate m before result a.0) (of_order b a.0) a.1
      ]

-- the number of a failure
pub status_of : (r : Result (Unit {0}) Failure) (f : Failure) → IsErrAnd r (λ g. g ≡ f) → status r ≡ failure_number f
status_of (Ok x) f h = absurd h
status_of (Err g) f h = ap failure_number h
