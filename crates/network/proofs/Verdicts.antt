-- What is settled, and what a list of settled checks comes to. Assumes nothing.
use Rattle.std.proofs.Common.{◌≡◌, ℕ, ◌<◌, ◌≤◌, ◌⊎◌, List, [], ◌∷◌, sym, refl, ◌∙◌, inl, inr, ⊎_elim, arith}
use Rattle.std.proofs.lemmas.Bool.{cases_lt}
use Rattle.network.specs.Checks.{Check, First, Passed}

-- the first failed check is one
pub one_first : (k j : ℕ) (cs : List Check) → First k cs → First j cs → k ≡ j
one_first k j [] p q = absurd p
one_first k j (c ∷ cs) (inl p) (inl q) = p.0 ∙ sym q.0
one_first k j (c ∷ cs) (inl p) (inr q) = absurd (q.0 p.1)
one_first k j (c ∷ cs) (inr p) (inl q) = absurd (p.0 q.1)
one_first k j (c ∷ cs) (inr p) (inr q) = one_first k j cs p.1 q.1

-- where all pass, none is the first
pub passed_first : (k : ℕ) (cs : List Check) → Passed cs → First k cs → ⊥
passed_first k [] p f = f
passed_first k (c ∷ cs) p (inl f) = p.0 f.1
passed_first k (c ∷ cs) p (inr f) = passed_first k cs p.1 f.1

abbrev pub Settled : Type 0 → Type 0
Settled P = P ⊎ (P → ⊥)

pub both : (P Q : Type 0) → Settled P → Settled Q → Settled (P × Q)
both P Q (inl p) (inl q) = inl (p, q)
both P Q (inl p) (inr q) = inr (λ h. q h.1)
both P Q (inr p) q = inr (λ h. p h.0)

pub either : (P Q : Type 0) → Settled P → Settled Q → Settled (P ⊎ Q)
either P Q (inl p) q = inl (inl p)
either P Q (inr p) (inl q) = inl (inr q)
either P Q (inr p) (inr q) = inr (λ h. ⊎_elim p q h)

pub opposite : (P : Type 0) → Settled P → Settled (P → ⊥)
opposite P (inl p) = inr (λ h. h p)
opposite P (inr p) = inl p

pub below : (m n : ℕ) → Settled (m < n)
below m n = ⊎_elim (λ h. inl h) (λ h. inr (λ k. omega arith)) (cases_lt m n)

pub upto : (m n : ℕ) → Settled (m ≤ n)
upto m n = ⊎_elim (λ h. inr (λ k. omega arith)) (λ h. inl h) (cases_lt n m)

-- checks that are each settled: one is the first to fail, or all pass
abbrev pub Settles : List Check → Type 0
Settles [] = Unit {0}
Settles (c ∷ cs) = Settled c.fails × Settles cs

abbrev pub Verdict : List Check → Type 0
Verdict cs = ((k : ℕ) × First k cs) ⊎ Passed cs

verdict_more : (c : Check) (cs : List Check) → Settled c.fails → Verdict cs → Verdict (c ∷ cs)
verdict_more c cs (inl f) v = inl (c.number, inl (refl, f))
verdict_more c cs (inr p) (inl f) = inl (f.0, inr (p, f.1))
verdict_more c cs (inr p) (inr q) = inr (p, q)

pub verdict : (cs : List Check) → Settles cs → Verdict cs
verdict [] s = inr tt
verdict (c ∷ cs) s = verdict_more c cs s.0 (verdict cs s.1)

pub stable : (P : Type 0) → Settled P → ((P → ⊥) → ⊥) → P
stable P (inl p) h = p
stable P (inr p) h = absurd (h p)
