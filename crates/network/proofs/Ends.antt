-- A sound circuit, and one that fails a check. Assumes nothing.
use Rattle.std.proofs.Common.{◌≡◌, ℕ, ◌<◌, ◌≤◌, ◌⊎◌, inl, inr, ⊎_elim, arith}
use Rattle.std.proofs.lemmas.Bool.{cases_lt, cases_eq}
use Rattle.network.specs.declared.register.Circuit.{Circuit}
use Rattle.network.specs.Network.{Sound, BadEnds, BadFigures}
use Rattle.network.proofs.Verdicts.{Settled, either, below, upto}

not_le : (a b : ℕ) → (a ≤ b → ⊥) → b < a
not_le a b h = ⊎_elim (λ l. l) (λ l. absurd (h l)) (cases_lt b a)

pub good_ends : (n : ℕ) (c : Circuit) → Sound n c → BadEnds n c → ⊥
good_ends n c s (inl h) = omega (arith, s.from_place)
good_ends n c s (inr (inl h)) = omega (arith, s.to_place)
good_ends n c s (inr (inr h)) = s.apart h

pub good_figures : (n : ℕ) (c : Circuit) → Sound n c → BadFigures c → ⊥
good_figures n c s (inl h) = omega (arith, s.some_bandwidth)
good_figures n c s (inr (inl h)) = omega (arith, s.most_bandwidth)
good_figures n c s (inr (inr h)) = omega (arith, s.most_cost)

-- what the checks say where they pass
pub sound_told : (n : ℕ) (c : Circuit) → (BadEnds n c → ⊥) → (BadFigures c → ⊥) → Sound n c
sound_told n c p q = record {
  from_place = not_le n c.from (λ h. p (inl h));
  to_place = not_le n c.to (λ h. p (inr (inl h)));
  apart = λ h. p (inr (inr h));
  some_bandwidth = ⊎_elim (λ h. absurd (q (inl h))) (λ h. h) (cases_lt c.bandwidth 1);
  most_bandwidth = ⊎_elim (λ h. absurd (q (inr (inl h)))) (λ h. h) (cases_lt 64000000 c.bandwidth);
  most_cost = ⊎_elim (λ h. absurd (q (inr (inr h)))) (λ h. h) (cases_lt 1000000 c.cost);
}

pub ends_settled : (n : ℕ) (c : Circuit) → Settled (BadEnds n c)
ends_settled n c = either (n ≤ c.from) ((n ≤ c.to) ⊎ (c.from ≡ c.to)) (upto n c.from) (either (n ≤ c.to) (c.from ≡ c.to) (upto n c.to) (cases_eq c.from c.to))

pub figures_settled : (c : Circuit) → Settled (BadFigures c)
figures_settled c = either (c.bandwidth < 1) ((64000000 < c.bandwidth) ⊎ (1000000 < c.cost)) (below c.bandwidth 1) (either (64000000 < c.bandwidth) (1000000 < c.cost) (below 64000000 c.bandwidth) (below 1000000 c.cost))
