-- A line says one statement at most.
use Rattle.std.proofs.Common.{◌≡◌, ℕ, List, sym, ap, ◌∙◌, subst, inl, inr}
use Rattle.promise.specs.declared.Mode.{Mode}
use Rattle.calls.specs.declared.order.Ask.{Ask}
use Rattle.calls.specs.declared.order.Order.TheVariants as order
use Rattle.orders.specs.declared.statement.Statement.{Statement}
use Rattle.orders.specs.declared.statement.Statement.TheVariants as statement
use Rattle.words.specs.declared.verbs.Verb.{Verb}
use Rattle.words.specs.declared.verbs.Verb.TheVariants.{Safest, Widest, Book, Release, Close, Reopen, Left, Open, Uses, Routes, Map}
use Rattle.words.specs.Figures.{Single}
use Rattle.words.specs.Verbs.{verb_text}
use Rattle.orders.specs.Meanings.{One, Two, Asks, SaidSafest, SaidWidest, SaidBook, Said, Means, OneMeaning}
use Rattle.words.specs.Decimals.{numeral_single}
use Rattle.words.proofs.Naming.{place_single}
use Rattle.orders.proofs.Saying.{one_at, two_at, safest_at, widest_at, book_at}
use Rattle.orders.proofs.Splitting.{splits_one}
use Rattle.words.proofs.VerbsApart.{verb_once, mode_once}

one_single : (args : List (List ℕ)) (m n : ℕ) → One args m → One args n → m ≡ n
one_single args m n p q = numeral_single 32 q.0 m n (one_at args m p q.0 q.1) q.2

two_single : (args : List (List ℕ)) (v w : ℕ × ℕ) → Two args v → Two args w → v ≡ w
two_single args v w p q =
    let x = two_at args v p q.0 q.1 q.2 in
    ap (λ n. (n, v.1)) (numeral_single 32 q.0 v.0 w.0 x.0 q.3) ∙ ap (λ n. (w.0, n)) (numeral_single 32 q.1 v.1 w.1 x.1 q.4)

asks_single : (names : List (List ℕ)) (f t r m : List ℕ) (x y : Ask) → Asks names f t r m x → Asks names f t r m y → x ≡ y
asks_single names f t r m x y p q =
    let made : ℕ → ℕ → ℕ → Mode → Ask = λ a b c d. record { from = a; to = b; rate = c; mode = d } in
    ap (λ a. made a x.to x.rate x.mode) (place_single names f x.from y.from p.0 q.0)
    ∙ ap (λ b. made y.from b x.rate x.mode) (place_single names t x.to y.to p.1 q.1)
    ∙ ap (λ c. made y.from y.to c x.mode) (numeral_single 32 r x.rate y.rate p.2 q.2)
    ∙ ap (λ d. made y.from y.to y.rate d) (mode_once x.mode y.mode (sym p.3 ∙ q.3))

module _ {V : Type 0} (spells : List ℕ → V → Type 0) (single : Single spells) (names : List (List ℕ)) where
  safest_single : (args : List (List ℕ)) (s t : Statement V) → SaidSafest spells names args s → SaidSafest spells names args t → s ≡ t
  safest_single args s t p q =
      let x = safest_at spells names args s p q.0 q.1 q.2 q.3 q.5 in
      p.7 ∙ ap (λ a. statement.Order (order.Safest a)) (asks_single names q.0 q.1 q.2 q.3 p.4 q.4 x q.6) ∙ sym q.7

  widest_single : (args : List (List ℕ)) (s t : Statement V) → SaidWidest spells names args s → SaidWidest spells names args t → s ≡ t
  widest_single args s t p q =
      let x = widest_at spells names args s p q.0 q.1 q.2 q.3 q.8 in
      p.13
      ∙ ap (λ a. statement.Order (order.Widest a p.5 p.6 p.7)) (place_single names q.0 p.4 q.4 x.0 q.9)
      ∙ ap (λ b. statement.Order (order.Widest q.4 b p.6 p.7)) (place_single names q.1 p.5 q.5 x.1 q.10)
      ∙ ap (λ m. statement.Order (order.Widest q.4 q.5 m p.7)) (mode_once p.6 q.6 (sym x.2 ∙ q.11))
      ∙ ap (λ l. statement.Order (order.Widest q.4 q.5 q.6 l)) (single q.3 p.7 q.7 x.3 q.12)
      ∙ sym q.13

  book_single : (args : List (List ℕ)) (s t : Statement V) → SaidBook spells names args s → SaidBook spells names args t → s ≡ t
  book_single args s t p q =
      let x = book_at spells names args s p q.0 q.1 q.2 q.3 q.4 q.5 q.9 in
      p.13
      ∙ ap (λ n. statement.Order (order.Book n p.7 p.8)) (numeral_single 32 q.0 p.6 q.6 x.0 q.10)
      ∙ ap (λ a. statement.Order (order.Book q.6 a p.8)) (asks_single names q.1 q.2 q.3 q.4 p.7 q.7 x.1 q.11)
      ∙ ap (λ l. statement.Order (order.Book q.6 q.7 l)) (single q.5 p.8 q.8 x.2 q.12)
      ∙ sym q.13

  said_single : (v : Verb) (args : List (List ℕ)) (s t : Statement V) → Said spells names v args s → Said spells names v args t → s ≡ t
  said_single Safest args s t p q = safest_single args s t p q
  said_single Widest args s t p q = widest_single args s t p q
  said_single Book args s t p q = book_single args s t p q
  said_single Release args s t p q = p.2 ∙ ap (λ n. statement.Order (order.Release n)) (one_single args p.0 q.0 p.1 q.1) ∙ sym q.2
  said_single Close args s t p q = p.2 ∙ ap (λ v. statement.Order (order.Close v.0 v.1)) (two_single args p.0 q.0 p.1 q.1) ∙ sym q.2
  said_single Reopen args s t p q = p.2 ∙ ap (λ n. statement.Order (order.Reopen n)) (one_single args p.0 q.0 p.1 q.1) ∙ sym q.2
  said_single Left args s t p q = p.2 ∙ ap (λ n. statement.Order (order.Left n)) (one_single args p.0 q.0 p.1 q.1) ∙ sym q.2
  said_single Open args s t p q = p.2 ∙ ap (λ n. statement.Order (order.Open n)) (one_single args p.0 q.0 p.1 q.1) ∙ sym q.2
  said_single Uses args s t p q = p.2 ∙ ap (λ v. statement.Order (order.Uses v.0 v.1)) (two_single args p.0 q.0 p.1 q.1) ∙ sym q.2
  said_single Routes args s t p q = p.1 ∙ sym q.1
  said_single Map args s t p q = p.1 ∙ sym q.1

  means_single : (words : List (List ℕ)) (s t : Statement V) → Means spells names words s → Means spells names words t → s ≡ t
  means_single words s t (inl p) (inl q) = p.1 ∙ sym q.1
  means_single words s t (inl p) (inr q) = let e = p.0 in let f = q.2 in absurd (cc)
  means_single words s t (inr p) (inl q) = let e = p.2 in let f = q.0 in absurd (cc)
  means_single words s t (inr p) (inr q) =
      let e = p.2 in
      let f = q.2 in
      let w : verb_text q.0 ≡ verb_text p.0 = cc in
      let a : q.1 ≡ p.1 = cc in
      said_single p.0 p.1 s t p.3
      (subst (λ u. Said spells names u p.1 t) (verb_once q.0 p.0 w) (subst (λ l. Said spells names q.0 l t) a q.3))

pub one_meaning : {V : Type 0} (spells : List ℕ → V → Type 0) → Single spells → OneMeaning spells
one_meaning spells single names line s t p q =
    means_single spells single names q.0 s t (subst (λ ws. Means spells names ws s) (splits_one line p.0 q.0 p.1 q.1) p.2) q.2
