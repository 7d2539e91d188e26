-- The steps of a load: from sound records and an offset to the next ones.
use Rattle.std.proofs.Common.{◌≡◌, ℕ, zero, suc, ◌+◌, ◌<◌, ◌≤◌, ◌⊎◌, List, [], ◌∷◌, ◌++◌, map, length, get_or, take, drop, sym, refl, ap, ◌∙◌, subst, inl, inr, ⊎_elim, append_assoc, arith, length-append}
use Rattle.std.proofs.lemmas.List.{append-nil, drop-drop, drop_more, drop_all, nil_from_length, take-append-drop, length-take-le, length-drop, length_push, get_or-drop}
use Rattle.std.proofs.lemmas.Bool.{cases_eq}
use Rattle.network.specs.Checks.{First, Passed}
use Rattle.network.specs.declared.register.Circuit.{Circuit}
use Rattle.network.specs.Network.{Sound}
use Rattle.network.specs.Routes.{Each}
use Rattle.network.proofs.Ends.{sound_told}
use Rattle.network.proofs.Verdicts.{Settled, both, below, upto, stable}
use Rattle.image_format.specs.Image.{at16, PL, CT, EN, place_bytes, circuit_bytes, end_bytes, concat, records_bytes, Repeats, Different, Name, Records, Image, Marked, mark_checks, size, place_checks, told, circuit_checks, end_checks, Fault, Refused}
use Rattle.image_format.specs.Claims.{At}
use Rattle.image_format.proofs.Figures.{be16_two, be32_four}

abbrev pub Bytes : List ℕ → Type 0
Bytes xs = Each (λ b. b < 256) xs

-- the bytes of a list from a place up to another: all that a load reads of them
abbrev pub Below : List ℕ → ℕ → ℕ → Type 0
Below xs from to = (j : ℕ) → from ≤ j → j < to → get_or xs j 0 < 256

pub below_drop : (xs : List ℕ) (offset a b : ℕ) → Below xs (offset + a) (offset + b) → Below (drop offset xs) a b
below_drop xs offset a b p j h k = rw get_or-drop (p (offset + j) (omega arith) (omega arith))

-- one more record at the end
concat_push : {A : Type 0} (f : A → List ℕ) (xs : List A) (x : A) → concat (map f (xs ++ x ∷ [])) ≡ concat (map f xs) ++ f x
concat_push f [] x = append-nil (f x)
concat_push f (y ∷ xs) x = ap (λ z. f y ++ z) (concat_push f xs x) ∙ sym (append_assoc (f y) (concat (map f xs)) (f x))

pub place_grows : (names : List (List ℕ)) (name : List ℕ) → records_bytes (names ++ name ∷ []) [] ≡ records_bytes names [] ++ place_bytes name
place_grows names name =
    append-nil (concat (map place_bytes (names ++ name ∷ []))) ∙ concat_push place_bytes names name ∙ ap (λ z. z ++ place_bytes name) (sym (append-nil (concat (map place_bytes names))))

pub circuit_grows : (names : List (List ℕ)) (circuits : List Circuit) (c : Circuit) → records_bytes names (circuits ++ c ∷ []) ≡ records_bytes names circuits ++ circuit_bytes c
circuit_grows names circuits c =
    ap (λ z. concat (map place_bytes names) ++ z) (concat_push circuit_bytes circuits c) ∙ sym (append_assoc (concat (map place_bytes names)) (concat (map circuit_bytes circuits)) (circuit_bytes c))

each_push : {A : Type 0} (P : A → Type 0) (xs : List A) (x : A) → Each P xs → P x → Each P (xs ++ x ∷ [])
each_push P [] x e p = (p, tt)
each_push P (y ∷ xs) x e p = (e.0, each_push P xs x e.1 p)

repeats_push : (x : List ℕ) (xs : List (List ℕ)) (y : List ℕ) → Repeats x (xs ++ y ∷ []) → Repeats x xs ⊎ (y ≡ x)
repeats_push x [] y (inl e) = inr (sym e)
repeats_push x [] y (inr e) = absurd e
repeats_push x (z ∷ xs) y (inl e) = inl (inl e)
repeats_push x (z ∷ xs) y (inr r) = ⊎_elim (λ a. inl (inr a)) (λ b. inr b) (repeats_push x xs y r)

different_push : (xs : List (List ℕ)) (y : List ℕ) → Different xs → (Repeats y xs → ⊥) → Different (xs ++ y ∷ [])
different_push [] y d n = ((λ r. r), tt)
different_push (x ∷ xs) y d n = ((λ r. ⊎_elim d.0 (λ e. n (inl e)) (repeats_push x xs y r)), different_push xs y d.1 (λ r. n (inr r)))

-- the records with one more are sound
pub place_more : (names : List (List ℕ)) (name : List ℕ) → Records names [] → Name name → length names < 128 → (Repeats name names → ⊥) → Records (names ++ name ∷ []) []
place_more names name g a l new =
    let k = length_push names name in
    record { few_places = omega arith; few_circuits = omega arith; names_fit = each_push Name names name g.names_fit a; names_differ = different_push names name g.names_differ new; sound = tt }

pub circuit_more : (names : List (List ℕ)) (circuits : List Circuit) (c : Circuit) → Records names circuits → Sound (length names) c → length circuits < 384 → Records names (circuits ++ c ∷ [])
circuit_more names circuits c g s l =
    let k = length_push circuits c in
    record { few_places = g.few_places; few_circuits = omega arith; names_fit = g.names_fit; names_differ = g.names_differ; sound = each_push (Sound (length names)) circuits c g.sound s }

zero_or_suc : (i : ℕ) → (i ≡ 0) ⊎ ((j : ℕ) × (suc j ≡ i))
zero_or_suc zero = inl refl
zero_or_suc (suc j) = inr (j, refl)

-- the bytes at a mark, read off one by one
pub each_read : (xs : List ℕ) (i : ℕ) → Bytes xs → get_or xs i 0 < 256
each_read [] i e = omega arith
each_read (x ∷ xs) i e =
    ⊎_elim (λ z. subst (λ j. get_or (x ∷ xs) j 0 < 256) (sym z) e.0) (λ z. subst (λ j. get_or (x ∷ xs) j 0 < 256) z.1 (each_read xs z.0 e.1)) (zero_or_suc i)

marked : (a b : ℕ) (rest : List ℕ) → take 2 rest ≡ a ∷ b ∷ [] → rest ≡ a ∷ b ∷ drop 2 rest
marked a b [] e = cc
marked a b (x ∷ []) e = cc
marked a b (x ∷ y ∷ t) e = cc

-- bytes read off one by one
two_read : (rest : List ℕ) (i : ℕ) → i + 2 ≤ length rest → drop i rest ≡ get_or rest i 0 ∷ get_or rest (i + 1) 0 ∷ drop (i + 1 + 1) rest
two_read rest i h = drop_more rest i 0 (omega arith) ∙ ap (λ z. get_or rest i 0 ∷ z) (drop_more rest (i + 1) 0 (omega arith))

four_read : (rest : List ℕ) (i : ℕ) → i + 4 ≤ length rest → drop i rest ≡ get_or rest i 0 ∷ get_or rest (i + 1) 0 ∷ get_or rest (i + 1 + 1) 0 ∷ get_or rest (i + 1 + 1 + 1) 0 ∷ drop (i + 1 + 1 + 1 + 1) rest
four_read rest i h = two_read rest i (omega arith) ∙ ap (λ z. get_or rest i 0 ∷ get_or rest (i + 1) 0 ∷ z) (two_read rest (i + 1 + 1) (omega arith))

pub place_front : (names : List (List ℕ)) (circuits : List Circuit) (rest : List ℕ) → Marked names circuits rest PL → 3 + size names circuits rest ≤ length rest → rest ≡ place_bytes (take (get_or rest 2 0) (drop 3 rest)) ++ drop (3 + get_or rest 2 0) rest
place_front names circuits rest m l =
    let a = marked 80 76 rest m in
    let n : ℕ = get_or rest 2 0 in
    let h : 2 < length rest = omega arith in
    let b : drop 2 rest ≡ get_or rest 2 0 ∷ drop 3 rest = drop_more rest 2 0 h in
    let c : take n (drop 3 rest) ++ drop n (drop 3 rest) ≡ drop 3 rest = take-append-drop n (drop 3 rest) in
    let d : drop n (drop 3 rest) ≡ drop (3 + n) rest = drop-drop n 3 rest in
    let f : length (take n (drop 3 rest)) ≡ n = length-take-le n (drop 3 rest) (simp length-drop (omega arith)) in
    cc

pub circuit_front : (names : List (List ℕ)) (circuits : List Circuit) (rest : List ℕ) → Below rest 2 14 → Marked names circuits rest CT → 14 ≤ length rest → rest ≡ circuit_bytes (told names circuits rest) ++ drop 14 rest
circuit_front names circuits rest e m l =
    let a = marked 67 84 rest m in
    let ends : drop 2 rest ≡ get_or rest 2 0 ∷ get_or rest 3 0 ∷ get_or rest 4 0 ∷ get_or rest 5 0 ∷ drop 6 rest = four_read rest 2 (omega arith) in
    let bandwidth : drop 6 rest ≡ get_or rest 6 0 ∷ get_or rest 7 0 ∷ get_or rest 8 0 ∷ get_or rest 9 0 ∷ drop 10 rest = four_read rest 6 (omega arith) in
    let cost : drop 10 rest ≡ get_or rest 10 0 ∷ get_or rest 11 0 ∷ get_or rest 12 0 ∷ get_or rest 13 0 ∷ drop 14 rest = four_read rest 10 (omega arith) in
    let f = be16_two (get_or rest 2 0) (get_or rest 3 0) (e 2 (omega arith) (omega arith)) (e 3 (omega arith) (omega arith)) in
    let g = be16_two (get_or rest 4 0) (get_or rest 5 0) (e 4 (omega arith) (omega arith)) (e 5 (omega arith) (omega arith)) in
    let h = be32_four (get_or rest 6 0) (get_or rest 7 0) (get_or rest 8 0) (get_or rest 9 0) (e 6 (omega arith) (omega arith)) (e 7 (omega arith) (omega arith)) (e 8 (omega arith) (omega arith)) (e 9 (omega arith) (omega arith)) in
    let i = be32_four (get_or rest 10 0) (get_or rest 11 0) (get_or rest 12 0) (get_or rest 13 0) (e 10 (omega arith) (omega arith)) (e 11 (omega arith) (omega arith)) (e 12 (omega arith) (omega arith)) (e 13 (omega arith) (omega arith)) in
    cc

pub end_front : (names : List (List ℕ)) (circuits : List Circuit) (rest : List ℕ) → Below rest 2 4 → Marked names circuits rest EN → length rest ≡ 4 → rest ≡ end_bytes (at16 rest 2)
end_front names circuits rest e m l =
    let a = marked 69 78 rest m in
    let count : drop 2 rest ≡ get_or rest 2 0 ∷ get_or rest 3 0 ∷ drop 4 rest = two_read rest 2 (omega arith) in
    let none : drop 4 rest ≡ [] = drop_all 4 rest (omega arith) in
    let f = be16_two (get_or rest 2 0) (get_or rest 3 0) (e 2 (omega arith) (omega arith)) (e 3 (omega arith) (omega arith)) in
    cc

pub at_start : (bytes : List ℕ) → At bytes [] [] 0
at_start bytes = record {
  records = record { few_places = omega arith; few_circuits = omega arith; names_fit = tt; names_differ = tt; sound = tt };
  before = refl;
  at = refl;
}

-- one record on: its bytes come to the front
grown : (bytes front piece : List ℕ) (offset n : ℕ) → bytes ≡ front ++ drop offset bytes → drop offset bytes ≡ piece ++ drop n (drop offset bytes) → bytes ≡ (front ++ piece) ++ drop (offset + n) bytes
grown bytes front piece offset n e f =
    let a : bytes ≡ front ++ (piece ++ drop n (drop offset bytes)) = e ∙ ap (λ z. front ++ z) f in
    let b = append_assoc front piece (drop n (drop offset bytes)) in
    let c : drop n (drop offset bytes) ≡ drop (offset + n) bytes = drop-drop n offset bytes in
    cc

module _ (bytes : List ℕ) (names : List (List ℕ)) (circuits : List Circuit) (offset : ℕ) where
  abbrev pub Rest : List ℕ
  Rest = drop offset bytes

  -- the name that the place at the offset has
  abbrev pub told_name : List ℕ
  told_name = take (size names circuits Rest) (drop 3 Rest)

  -- a place that passes its checks
  pub place_step : At bytes names circuits offset → Marked names circuits Rest PL → circuits ≡ [] → length names < 128 → 1 ≤ size names circuits Rest → size names circuits Rest ≤ 16 → 3 + size names circuits Rest ≤ length Rest → (Repeats told_name names → ⊥) → At bytes (names ++ told_name ∷ []) circuits (offset + (3 + size names circuits Rest))
  place_step s m e l a b h new =
      let n : ℕ = get_or Rest 2 0 in
      let k : length told_name ≡ n = length-take-le n (drop 3 Rest) (omega (arith, length-drop 3 Rest)) in
      let f : Rest ≡ place_bytes told_name ++ drop (3 + n) Rest = place_front names circuits Rest m h in
      let g : records_bytes (names ++ told_name ∷ []) circuits ≡ records_bytes names circuits ++ place_bytes told_name = subst (λ z. records_bytes (names ++ told_name ∷ []) z ≡ records_bytes names z ++ place_bytes told_name) (sym e) (place_grows names told_name) in
      record {
        records = subst (λ z. Records (names ++ told_name ∷ []) z) (sym e) (place_more names told_name (subst (λ z. Records names z) e s.records) (omega arith, omega arith) l new);
        before = grown bytes (records_bytes names circuits) (place_bytes told_name) offset (3 + n) s.before f ∙ ap (λ z. z ++ drop (offset + (3 + n)) bytes) (sym g);
        at = omega (arith, s.at, ap length g, length-append (records_bytes names circuits) (place_bytes told_name));
      }

  -- a circuit that passes its checks
  pub circuit_step : At bytes names circuits offset → Below bytes (offset + 2) (offset + 14) → Marked names circuits Rest CT → length circuits < 384 → 14 ≤ length Rest → Sound (length names) (told names circuits Rest) → At bytes names (circuits ++ told names circuits Rest ∷ []) (offset + 14)
  circuit_step s w m l h a =
      let c : Circuit = told names circuits Rest in
      let g = circuit_grows names circuits c in
      record {
        records = circuit_more names circuits c s.records a l;
        before = grown bytes (records_bytes names circuits) (circuit_bytes c) offset 14 s.before (circuit_front names circuits Rest (below_drop bytes offset 2 14 w) m h) ∙ ap (λ z. z ++ drop (offset + 14) bytes) (sym g);
        at = omega (arith, s.at, ap length g, length-append (records_bytes names circuits) (circuit_bytes c));
      }

  -- an end that passes its checks
  pub end_step : At bytes names circuits offset → Below bytes (offset + 2) (offset + 4) → Marked names circuits Rest EN → length Rest ≡ 4 → at16 Rest 2 ≡ length names + length circuits → Image bytes names circuits
  end_step s w m h e = record {
    records = s.records;
    written = s.before ∙ ap (λ z. records_bytes names circuits ++ z) (end_front names circuits Rest (below_drop bytes offset 2 4 w) m h ∙ ap end_bytes e);
  }

  -- the same three by their checks, all of which pass
  pub place_passed : At bytes names circuits offset → Marked names circuits Rest PL → Passed (place_checks names circuits Rest) → At bytes (names ++ told_name ∷ []) [] (offset + (3 + size names circuits Rest))
  place_passed s m p =
      let n : ℕ = get_or Rest 2 0 in
      let none : circuits ≡ [] = nil_from_length circuits (omega (arith, stable (length circuits < 1) (below (length circuits) 1) (λ k. p.0 (omega arith)))) in
      let few : length names < 128 = stable (length names < 128) (below (length names) 128) (λ k. p.1.0 (omega arith)) in
      let fits : (1 ≤ n) × (n ≤ 16) = stable ((1 ≤ n) × (n ≤ 16)) (both (1 ≤ n) (n ≤ 16) (upto 1 n) (upto n 16)) p.1.1.1.0 in
      let whole : 3 + n ≤ length Rest = stable (3 + n ≤ length Rest) (upto (3 + n) (length Rest)) (λ k. p.1.1.1.1.0 (omega arith)) in
      subst (λ z. At bytes (names ++ told_name ∷ []) z (offset + (3 + n))) none (place_step s m none few fits.0 fits.1 whole p.1.1.1.1.1.0)

  pub circuit_passed : At bytes names circuits offset → Below bytes (offset + 2) (offset + 14) → Marked names circuits Rest CT → Passed (circuit_checks names circuits Rest) → At bytes names (circuits ++ told names circuits Rest ∷ []) (offset + 14)
  circuit_passed s w m p =
      let few : length circuits < 384 = stable (length circuits < 384) (below (length circuits) 384) (λ k. p.0 (omega arith)) in
      let whole : 14 ≤ length Rest = stable (14 ≤ length Rest) (upto 14 (length Rest)) (λ k. p.1.0 (omega arith)) in
      circuit_step s w m few whole (sound_told (length names) (told names circuits Rest) p.1.1.0 p.1.1.1.0)

  -- an end record that counts the records before it, with nothing after it
  abbrev pub Last : Type 0
  Last = (at16 Rest 2 ≡ length names + length circuits) × (length Rest ≡ 4)

  pub last_settled : Settled Last
  last_settled = both (at16 Rest 2 ≡ length names + length circuits) (length Rest ≡ 4) (cases_eq (at16 Rest 2) (length names + length circuits)) (cases_eq (length Rest) 4)

  pub end_passed : At bytes names circuits offset → Below bytes (offset + 2) (offset + 4) → Marked names circuits Rest EN → Passed (end_checks names circuits Rest) → Image bytes names circuits
  end_passed s w m p = let last : Last = stable Last last_settled p.1.0 in end_step s w m last.1 last.0

  -- a record that fails a check
  pub refuse : (k : ℕ) → At bytes names circuits offset → Fault names circuits Rest k → Refused bytes k offset
  refuse k s f = record { names = names; circuits = circuits; rest = Rest; records = s.records; before = s.before; at = s.at; fault = f }

  abbrev pub Here : Type 0
  Here = At bytes names circuits offset

  -- each refusal
  pub no_mark : Here → length Rest < 2 → Refused bytes 1 offset
  no_mark s h = refuse 1 s (inl (inl (refl, h)))

  known : 2 ≤ length Rest → (Marked names circuits Rest PL ⊎ (Marked names circuits Rest CT ⊎ Marked names circuits Rest EN)) → Passed (mark_checks names circuits Rest)
  known l m = ((λ h. omega arith), ((λ h. h m), tt))

  pub place_fault : (k : ℕ) → Here → 2 ≤ length Rest → Marked names circuits Rest PL → First k (place_checks names circuits Rest) → Refused bytes k offset
  place_fault k s l m f = refuse k s (inr (known l (inl m), inl (m, f)))

  pub circuit_fault : (k : ℕ) → Here → 2 ≤ length Rest → Marked names circuits Rest CT → First k (circuit_checks names circuits Rest) → Refused bytes k offset
  circuit_fault k s l m f = refuse k s (inr (known l (inr (inl m)), inr (inl (m, f))))

  pub end_fault : (k : ℕ) → Here → 2 ≤ length Rest → Marked names circuits Rest EN → First k (end_checks names circuits Rest) → Refused bytes k offset
  end_fault k s l m f = refuse k s (inr (known l (inr (inr m)), inr (inr (m, f))))
