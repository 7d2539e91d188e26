-- From the words that were kept to the whole line.
use Rattle.std.proofs.Common.{ℕ, ◌≤◌, List, ◌++◌, length, Ok, Err, Result, ap, subst, inl, inr, arith, length-append}
use Rattle.orders.specs.declared.statement.Statement.{Statement}
use Rattle.words.specs.declared.verbs.Verb.{Verb}
use Rattle.words.specs.declared.verbs.Verb.TheVariants.{Safest, Widest, Book, Release, Close, Reopen, Left, Open, Uses, Routes, Map}
use Rattle.words.specs.Figures.{Reads}
use Rattle.orders.specs.Lines.{Splits}
use Rattle.orders.specs.Meanings.{Said, Means, LineMeans}
use Rattle.orders.proofs.Splitting.{splits_one}

module _ {V : Type 0} (spells : List ℕ → V → Type 0) (names : List (List ℕ)) where
  -- no verb takes more than six words
  said_few : (v : Verb) (args : List (List ℕ)) (s : Statement V) → Said spells names v args s → length args ≤ 6
  said_few Safest args s h = omega (arith, ap (λ l. length l) h.5)
  said_few Widest args s h = omega (arith, ap (λ l. length l) h.8)
  said_few Book args s h = omega (arith, ap (λ l. length l) h.9)
  said_few Release args s h = omega (arith, ap (λ l. length l) h.1.1)
  said_few Close args s h = omega (arith, ap (λ l. length l) h.1.2)
  said_few Reopen args s h = omega (arith, ap (λ l. length l) h.1.1)
  said_few Left args s h = omega (arith, ap (λ l. length l) h.1.1)
  said_few Open args s h = omega (arith, ap (λ l. length l) h.1.1)
  said_few Uses args s h = omega (arith, ap (λ l. length l) h.1.2)
  said_few Routes args s h = omega (arith, ap (λ l. length l) h.0)
  said_few Map args s h = omega (arith, ap (λ l. length l) h.0)

  means_few : (words : List (List ℕ)) (s : Statement V) → Means spells names words s → length words ≤ 7
  means_few words s (inl q) = omega (arith, ap (λ l. length l) q.0)
  means_few words s (inr q) = omega (arith, ap (λ l. length l) q.2, said_few q.0 q.1 s q.3)

  -- all words were kept
  pub whole_line : {E : Type 0} (line : List ℕ) (words : List (List ℕ)) (r : Result (Statement V) E) → Splits line words → Reads r (Means spells names words) → Reads r (LineMeans spells names line)
  whole_line line words (Ok s) sp m = (words, sp, m)
  whole_line line words (Err e) sp none = λ s h. none s (subst (λ ws. Means spells names ws s) (splits_one line h.0 words h.1 sp) h.2)

  -- more words were kept than any statement has
  pub long_line : {E : Type 0} (line : List ℕ) (words : List (List ℕ)) (r : Result (Statement V) E) → 8 ≤ length words → (ws : List (List ℕ)) × Splits line (words ++ ws) → Reads r (Means spells names words) → Reads r (LineMeans spells names line)
  long_line line words (Ok s) long sp m = absurd (omega (arith, means_few words s m))
  long_line line words (Err e) long sp none = λ s h.
      let same = splits_one line h.0 (words ++ sp.0) h.1 sp.1 in
      omega (arith, means_few h.0 s h.2, ap (λ l. length l) same, length-append words sp.0)
