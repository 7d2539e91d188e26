-- A table keeps the limits or is refused, and never both. Assumes nothing.
use Rattle.std.proofs.Common.{◌≡◌, ℕ, zero, suc, ◌<◌, ◌≤◌, ◌⊎◌, length, sym, refl, ◌∙◌, subst, inl, inr, ⊎_elim, arith}
use Rattle.std.proofs.lemmas.Bool.{cases_lt}
use Rattle.network.specs.Checks.{First, Passed}
use Rattle.network.specs.Network.{Network, Sound, Proper, circuit}
use Rattle.network.specs.Table.{Fails, ProperNotRefused, OneTableRefusal, ProperOrRefused, count_checks, record_checks}
use Rattle.network.proofs.Ends.{good_ends, good_figures, sound_told, ends_settled, figures_settled}
use Rattle.network.proofs.Verdicts.{one_first, passed_first, Verdict, either, below, verdict}

module _ (n : Network) where
  abbrev SoundAt : ℕ → Type 0
  SoundAt i = Sound n.places (circuit n i)

  -- a sound record fails no check
  sound_passes : (i : ℕ) → SoundAt i → Passed (record_checks n i)
  sound_passes i s = (good_ends n.places (circuit n i) s, (good_figures n.places (circuit n i) s, tt))

  not_sound : (k i : ℕ) → First k (record_checks n i) → SoundAt i → ⊥
  not_sound k i f s = passed_first k (record_checks n i) (sound_passes i s) f

  proper_passes : Proper n → Passed (count_checks n)
  proper_passes p = ((λ h. ⊎_elim (λ a. omega (arith, p.few_places)) (λ a. omega (arith, p.few_circuits)) h), tt)

  -- the records before i are sound
  abbrev Before : ℕ → Type 0
  Before i = (j : ℕ) → j < i → SoundAt j

  module _ (counts : Passed (count_checks n)) where
    one_more : (i : ℕ) → i < length n.circuits → Before i → Verdict (record_checks n i) → Before (suc i) ⊎ Fails n
    one_more i h b (inl f) = inr (record { number = f.0; at = i; refused = inr (counts, h, f.1, b) })
    one_more i h b (inr q) =
        let s : SoundAt i = sound_told n.places (circuit n i) q.0 q.1.0 in
        inl (λ j k. ⊎_elim (λ l. b j l) (λ l. let e : i ≡ j = omega arith in subst SoundAt e s) (cases_lt j i))

    -- they are, or the load is refused
    up_to : (i : ℕ) → i ≤ length n.circuits → Before i ⊎ Fails n
    up_to zero h = inl (λ j k. absurd (omega (arith, k)))
    up_to (suc i) h =
        ⊎_elim (λ b. one_more i (omega arith) b (verdict (record_checks n i) (ends_settled n.places (circuit n i), (figures_settled (circuit n i), tt)))) (λ f. inr f) (up_to i (omega arith))

    after_counts : Before (length n.circuits) ⊎ Fails n → Proper n ⊎ Fails n
    after_counts (inl b) =
        inl (record { few_places = ⊎_elim (λ h. absurd (counts.0 (inl h))) (λ h. h) (cases_lt 128 n.places); few_circuits = ⊎_elim (λ h. absurd (counts.0 (inr h))) (λ h. h) (cases_lt 384 (length n.circuits)); each = b })
    after_counts (inr f) = inr f

  by_counts : Verdict (count_checks n) → Proper n ⊎ Fails n
  by_counts (inl f) = inr (record { number = f.0; at = 0; refused = inl (refl, f.1) })
  by_counts (inr p) = after_counts p (up_to p (length n.circuits) (omega arith))

pub proper_or_refused : ProperOrRefused
proper_or_refused n =
    by_counts n (verdict (count_checks n) (either (128 < n.places) (384 < length n.circuits) (below 128 n.places) (below 384 (length n.circuits)), tt))

pub proper_not_refused : ProperNotRefused
proper_not_refused n k at p (inl r) = passed_first k (count_checks n) (proper_passes n p) r.1
proper_not_refused n k at p (inr r) = not_sound n k at r.2 (p.each at r.1)

-- of two records that fail, where all before each are sound, neither comes first
pub one_table_refusal : OneTableRefusal
one_table_refusal n k j at bt (inl r) (inl s) = (one_first k j (count_checks n) r.1 s.1, r.0 ∙ sym s.0)
one_table_refusal n k j at bt (inl r) (inr s) = absurd (passed_first k (count_checks n) s.0 r.1)
one_table_refusal n k j at bt (inr r) (inl s) = absurd (passed_first j (count_checks n) r.0 s.1)
one_table_refusal n k j at bt (inr r) (inr s) =
    let e : at ≡ bt =
    ⊎_elim (λ l. absurd (not_sound n k at r.2 (s.3 at l))) (λ l. ⊎_elim (λ m. absurd (not_sound n j bt s.2 (r.3 bt m))) (λ m. omega arith) (cases_lt bt at)) (cases_lt at bt) in
    (one_first k j (record_checks n bt) (subst (λ i. First k (record_checks n i)) e r.2) s.2, e)
