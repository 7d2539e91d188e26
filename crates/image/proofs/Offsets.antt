-- Places one after the other, and lists made by number.
use Rattle.std.proofs.Common.{◌≡◌, ℕ, zero, suc, ◌+◌, ◌<◌, ◌≤◌, List, map, length, sym, ap, ◌∙◌, subst, inl, inr, ⊎_elim, add-one, arith}
use Rattle.std.specs.List.{range_with_len}
use Rattle.std.proofs.lemmas.Bool.{cases_eq}
use Rattle.image_format.specs.Image.{Repeats}
use Rattle.image.specs.declared.layout.Layout.{Layout}
use Rattle.image.specs.Layout.{after_place, place_offset, end_of}

-- one place on
pub offset_more : (bytes : List ℕ) (i : ℕ) → place_offset bytes (i + 1) ≡ after_place bytes (place_offset bytes i)
offset_more bytes i = rw add-one

-- a place ends where a later one begins, or before
pub offset_before : (bytes : List ℕ) (i n : ℕ) → i < n → after_place bytes (place_offset bytes i) ≤ place_offset bytes n
offset_before bytes i zero h = absurd (omega arith)
offset_before bytes i (suc n) h =
    ⊎_elim (λ e. subst (λ z. after_place bytes (place_offset bytes z) ≤ place_offset bytes (suc n)) (sym e) (omega arith)) (λ e. omega (arith, offset_before bytes i n (omega arith))) (cases_eq i n)

-- a name stands in a list made by number, or nowhere in it
pub repeats_when : (f : ℕ → List ℕ) (name : List ℕ) (a n j : ℕ) → a ≤ j → j < a + n → name ≡ f j → Repeats name (map f (range_with_len a n))
repeats_when f name a zero j h k e = absurd (omega arith)
repeats_when f name a (suc n) j h k e = ⊎_elim (λ q. inl (e ∙ ap f q)) (λ q. inr (repeats_when f name (a + 1) n j (omega arith) (omega arith) e)) (cases_eq j a)

pub repeats_where : (f : ℕ → List ℕ) (name : List ℕ) (a n : ℕ) → ((j : ℕ) → a ≤ j → j < a + n → name ≡ f j → ⊥) → Repeats name (map f (range_with_len a n)) → ⊥
repeats_where f name a zero no_one r = r
repeats_where f name a (suc n) no_one (inl e) = no_one a (omega arith) (omega arith) e
repeats_where f name a (suc n) no_one (inr r) = repeats_where f name (a + 1) n (λ j h k. no_one j (omega arith) (omega arith)) r

-- an earlier place ends where the circuits begin, or before
pub room : (bytes : List ℕ) (next i places at : ℕ) → next ≡ place_offset bytes i → i < places → at ≡ place_offset bytes places → after_place bytes next ≤ at
room bytes next i places at e h f = subst (λ z. after_place bytes z ≤ at) (sym e) (omega (arith, offset_before bytes i places h, f))

-- and so within the image
pub within : (bytes : List ℕ) (l : Layout) (next i : ℕ) → l.first ≡ place_offset bytes l.places → end_of l ≤ length bytes → next ≡ place_offset bytes i → i < l.places → after_place bytes next ≤ length bytes
within bytes l next i f w e h = omega (arith, room bytes next i l.places l.first e h f)
