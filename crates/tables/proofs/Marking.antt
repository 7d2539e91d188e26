-- Marks: an array of a mark for each circuit, marked for the circuits of a list. Assumes nothing.
use Rattle.std.proofs.Common.{◌≡◌, ℕ, ◌<◌, Bool, false, ◌||◌, eqb, List, [], ◌∷◌, ◌++◌, get_or, replicate, sym, refl, ap, ◌∙◌}
use Rattle.std.proofs.lemmas.List.{get_or-replicate}
use Rattle.std.proofs.lemmas.List.Recursion.{or_push}
use Rattle.network.specs.Routes.{uses}

-- a mark for each circuit that may be, true for just those of the list
abbrev pub Marked : List Bool → List ℕ → Type 0
Marked marks cs = (c : ℕ) → c < 384 → get_or marks c false ≡ uses c cs

pub marked_none : Marked (replicate 384 false) []
marked_none c h = get_or-replicate {A = Bool} 384 c false false h

-- one more circuit is marked
pub marked_more : (marks new : List Bool) (cs : List ℕ) (d : ℕ) → ((c : ℕ) → c < 384 → get_or new c false ≡ (get_or marks c false || eqb c d)) → Marked marks cs → Marked new (cs ++ d ∷ [])
marked_more marks new cs d marked each c h = marked c h ∙ ap (λ b. b || eqb c d) (each c h) ∙ sym (or_push (uses c) (eqb c) refl (λ _ _. refl) cs d)
