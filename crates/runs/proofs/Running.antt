-- A run that goes on by one call.
use Rattle.std.proofs.Common.{◌≡◌, ℕ, ◌+◌, ◌<◌, List, [], ◌∷◌, ◌++◌, length, get_or, take, sym, refl, ap, ◌∙◌, subst, arith}
use Rattle.std.proofs.lemmas.List.{take_more, length-take}
use Rattle.network.specs.Network.{Network}
use Rattle.scale.specs.Measure.{Measure}
use Rattle.promise.specs.Ledger.{Ledger, nothing_yet}
use Rattle.promise.specs.Promise.{Entry, Right, after, Kept}
use Rattle.calls.specs.declared.order.Order.{Order}
use Rattle.tables.specs.declared.rows.Tables.{Tables}
use Rattle.tables.specs.Standing.{ledger_of}
use Rattle.book.specs.Answered.{Answered}
use Rattle.calls.specs.Calls.{Outcome, call_of, answer_of, entries}

-- the ledger that has been told all entries
abbrev pub final : {V : Type 0} → Ledger → List (Entry V) → Ledger
final l [] = l
final l (e ∷ es) = final (after l e.call e.answer) es

module _ {V : Type 0} where
  pub final_push : (l : Ledger) (es : List (Entry V)) (e : Entry V) → final l (es ++ e ∷ []) ≡ after (final l es) e.call e.answer
  final_push l [] e = refl
  final_push l (x ∷ es) e = final_push (after l x.call x.answer) es e

  pub kept_push : (s : Measure V) (n : Network) (l : Ledger) (es : List (Entry V)) (e : Entry V) → Kept s n l es → Right s n (final l es) e.call e.answer → Kept s n l (es ++ e ∷ [])
  kept_push s n l [] e kept right = (right, tt)
  kept_push s n l (x ∷ es) e kept right = (kept.0, kept_push s n (after l x.call x.answer) es e kept.1 right)

  pub entries_push : (orders : List (Order V)) (answers : List (Outcome V)) (o : Order V) (a : Outcome V) → length orders ≡ length answers → entries (orders ++ o ∷ []) (answers ++ a ∷ []) ≡ entries orders answers ++ (record { call = call_of o; answer = answer_of a }) ∷ []
  entries_push [] [] o a h = refl
  entries_push [] (b ∷ answers) o a h = absurd (omega (arith, h))
  entries_push (p ∷ orders) [] o a h = absurd (omega (arith, h))
  entries_push (p ∷ orders) (b ∷ answers) o a h = ap (λ es. record { call = call_of p; answer = answer_of b } ∷ es) (entries_push orders answers o a (omega (arith, h)))

  -- the entries of the first orders, and one more
  entries_more : (orders : List (Order V)) (answers answers' : List (Outcome V)) (i : ℕ) (o : Order V) (a : Outcome V) → i < length orders → length answers ≡ i → o ≡ get_or orders i o → answers' ≡ answers ++ a ∷ []
      → entries (take (i + 1) orders) answers' ≡ entries (take i orders) answers ++ (record { call = call_of o; answer = answer_of a }) ∷ []
  entries_more orders answers answers' i o a h long is pushed =
      let one : take (i + 1) orders ≡ take i orders ++ o ∷ [] = take_more orders i o h ∙ ap (λ x. take i orders ++ x ∷ []) (sym is) in
      let both : entries (take (i + 1) orders) answers' ≡ entries (take i orders ++ o ∷ []) (answers ++ a ∷ []) = cc in
      both ∙ entries_push (take i orders) answers o a (omega (arith, length-take i orders))

  -- The run so far: the tables stand for the ledger that has been told it, and each of its answers was right.
  pub record SoFar (s : Measure V) (n : Network) (t : Tables) (es : List (Entry V)) : Type 0 where
    pub ledger : ledger_of t ≡ final nothing_yet es
    pub kept : Kept s n nothing_yet es

  pub so_far_more : (s : Measure V) (n : Network) (t t' : Tables) (orders : List (Order V)) (answers answers' : List (Outcome V)) (i : ℕ) (o : Order V) (a : Outcome V) → i < length orders → length answers ≡ i → o ≡ get_or orders i o → answers' ≡ answers ++ a ∷ []
      → SoFar s n t (entries (take i orders) answers) → Answered s n t t' (call_of o) (answer_of a) → SoFar s n t' (entries (take (i + 1) orders) answers')
  so_far_more s n t t' orders answers answers' i o a h long is pushed far answered =
      let es = entries (take i orders) answers in
      let e : Entry V = record { call = call_of o; answer = answer_of a } in
      let more : entries (take (i + 1) orders) answers' ≡ es ++ e ∷ [] = entries_more orders answers answers' i o a h long is pushed in
      let right : Right s n (final nothing_yet es) (call_of o) (answer_of a) = subst (λ (l : Ledger). Right s n l (call_of o) (answer_of a)) far.ledger answered.right in
      let ledger : ledger_of t' ≡ final nothing_yet (es ++ e ∷ []) = answered.told_ledger ∙ (ap (λ (l : Ledger). after l (call_of o) (answer_of a)) far.ledger ∙ sym (final_push nothing_yet es e)) in
      subst (λ (z : List (Entry V)). SoFar s n t' z) (sym more) (record { ledger = ledger; kept = kept_push s n nothing_yet es e far.kept right })
