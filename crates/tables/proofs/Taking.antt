-- A loop over the circuits that changes what is left on each. Assumes nothing.
use Rattle.std.proofs.Common.{◌≡◌, ℕ, ◌+◌, ◌<◌, ◌≤◌, ◌≢◌, length, vec_items, vec_len, sym, refl, ap, ◌∙◌, subst, arith, below_more}
use Rattle.std.proofs.lemmas.List.{get_or-set_same, get_or-set_other}
use Rattle.tables.specs.declared.rows.CircuitState.{CircuitState}
use Rattle.tables.specs.declared.rows.Tables.{Tables}
use Rattle.tables.specs.Standing.{left_at, idle, with_circuit, SameButLeft}

-- The new tables are the old with the first circuits changed, each by its rule, and all else as it was.
pub record Changed (rule : ℕ → ℕ → Type 0) (old new : Tables) (done : ℕ) : Type 0 where
  pub rest : SameButLeft old new
  pub before : (c : ℕ) → c < done → rule c (left_at new c)
  pub after : (c : ℕ) → done ≤ c → left_at new c ≡ left_at old c

module _ (rule : ℕ → ℕ → Type 0) (old : Tables) where
  pub changed_none : Changed rule old old 0
  changed_none = record { rest = record { circuits = refl; feeds = refl; notices = refl }; before = λ c h. absurd (omega arith); after = λ c h. refl }

  pub changed_more : (new : Tables) (i : ℕ) (w : CircuitState) → i < vec_len old.circuits → Changed rule old new i → rule i w.left → Changed rule old (with_circuit new i w) (i + 1)
  changed_more new i w h so by-rule =
      let l = so.rest.circuits in
      let ok = new.circuits.ok in
      let within : i < length (vec_items new.circuits) = omega arith in
      let other : (c : ℕ) → c ≢ i → left_at (with_circuit new i w) c ≡ left_at new c =
      λ c ne. ap (λ (s : CircuitState). s.left) (get_or-set_other (vec_items new.circuits) i c w idle ne) in
      let here : left_at (with_circuit new i w) i ≡ w.left =
      ap (λ (s : CircuitState). s.left) (get_or-set_same (vec_items new.circuits) i w idle within) in
      record {
        rest = record { circuits = so.rest.circuits; feeds = so.rest.feeds; notices = so.rest.notices };
        before = below_more (λ c. rule c (left_at (with_circuit new i w) c)) i
            (λ c k. subst (rule c) (sym (other c (λ e. omega arith))) (so.before c k))
            (subst (rule i) (sym here) by-rule);
        after = λ c k. other c (λ e. omega arith) ∙ so.after c (omega arith);
      }
