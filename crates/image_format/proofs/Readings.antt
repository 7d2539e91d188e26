-- The bytes of an image, and of a refused load, determine what was read.
use Rattle.std.proofs.Common.{◌≡◌, ℕ, ◌+◌, ◌<◌, ◌≤◌, ◌⊎◌, List, [], ◌∷◌, ◌++◌, map, length, take, drop, sym, refl, ap, ◌∙◌, subst, inl, inr, append_assoc, arith, length-append}
use Rattle.std.proofs.lemmas.List.{take_at, drop_at}
use Rattle.network.specs.Checks.{First, Passed}
use Rattle.network.specs.declared.register.Circuit.{Circuit}
use Rattle.network.specs.Network.{Sound, BadEnds, BadFigures}
use Rattle.network.specs.Routes.{Each}
use Rattle.network.proofs.Ends.{good_ends, good_figures}
use Rattle.network.proofs.Verdicts.{one_first, passed_first}
use Rattle.image_format.specs.Image.{PL, CT, EN, place_bytes, circuit_bytes, end_bytes, concat, records_bytes, Repeats, Different, Name, Records, Image, Marked, mark_checks, place_checks, told, circuit_checks, end_checks, Fault, Refused}
use Rattle.image_format.proofs.Figures.{two_of, four_of, same16, same32}
use Rattle.image_format.proofs.Walk.{Longer, Walked, walk}

-- a place's length byte fixes where it ends
cut_append : (x y s t : List ℕ) → length x ≡ length y → x ++ s ≡ y ++ t → (x ≡ y) × (s ≡ t)
cut_append x y s t l e =
    let a = take_at x s (length y) l in
    let b = take_at y t (length y) refl in
    let c = drop_at x s (length y) l in
    let d = drop_at y t (length y) refl in
    let p = ap (take (length y)) e in
    let q = ap (drop (length y)) e in
    (cc, cc)

cut_place : (x y s t : List ℕ) → Name x → Name y → place_bytes x ++ s ≡ place_bytes y ++ t → (x ≡ y) × (s ≡ t)
cut_place x y s t g h e =
    let l : length x ≡ length y = cc in
    let r : x ++ s ≡ y ++ t = cc in
    cut_append x y s t l r

-- figures that fit their widths
pub record Fit (c : Circuit) : Type 0 where
  pub from_fits : c.from < 65536
  pub to_fits : c.to < 65536
  pub bandwidth_fits : c.bandwidth < 4294967296
  pub cost_fits : c.cost < 4294967296

sound_fits : (n : ℕ) (c : Circuit) → n ≤ 128 → Sound n c → Fit c
sound_fits n c h s = record { from_fits = omega arith; to_fits = omega arith; bandwidth_fits = omega arith; cost_fits = omega arith }

pub same_circuit : (x y : Circuit) → x.from ≡ y.from → x.to ≡ y.to → x.bandwidth ≡ y.bandwidth → x.cost ≡ y.cost → x ≡ y
same_circuit x y a b c d =
    let f : ℕ → Circuit = λ v. record { from = v; to = x.to; bandwidth = x.bandwidth; cost = x.cost } in
    let g : ℕ → Circuit = λ v. record { from = y.from; to = v; bandwidth = x.bandwidth; cost = x.cost } in
    let h : ℕ → Circuit = λ v. record { from = y.from; to = y.to; bandwidth = v; cost = x.cost } in
    let i : ℕ → Circuit = λ v. record { from = y.from; to = y.to; bandwidth = y.bandwidth; cost = v } in
    ap f a ∙ ap g b ∙ ap h c ∙ ap i d

cut_circuit : (x y : Circuit) (s t : List ℕ) → Fit x → Fit y → circuit_bytes x ++ s ≡ circuit_bytes y ++ t → (x ≡ y) × (s ≡ t)
cut_circuit x y s t g h e =
    let a : x.from ≡ y.from = same16 x.from y.from g.from_fits h.from_fits (cc) (cc) in
    let b : x.to ≡ y.to = same16 x.to y.to g.to_fits h.to_fits (cc) (cc) in
    let c : x.bandwidth ≡ y.bandwidth = same32 x.bandwidth y.bandwidth g.bandwidth_fits h.bandwidth_fits (cc) (cc) (cc) (cc) in
    let d : x.cost ≡ y.cost = same32 x.cost y.cost g.cost_fits h.cost_fits (cc) (cc) (cc) (cc) in
    let r : s ≡ t = cc in
    (same_circuit x y a b c d, r)

each_map : {A : Type 0} (P Q : A → Type 0) → ((x : A) → P x → Q x) → (xs : List A) → Each P xs → Each Q xs
each_map P Q f [] e = tt
each_map P Q f (x ∷ xs) e = (f x e.0, each_map P Q f xs e.1)

each_at : {A : Type 0} (P : A → Type 0) (xs : List A) (y : A) (ys : List A) → Each P (xs ++ y ∷ ys) → P y
each_at P [] y ys e = e.0
each_at P (x ∷ xs) y ys e = each_at P xs y ys e.1

-- a name that stands later repeats none before it
repeats_at : (xs : List (List ℕ)) (y : List ℕ) (ys : List (List ℕ)) → Repeats y (xs ++ y ∷ ys)
repeats_at [] y ys = inl refl
repeats_at (x ∷ xs) y ys = inr (repeats_at xs y ys)

new_at : (xs : List (List ℕ)) (y : List ℕ) (ys : List (List ℕ)) → Different (xs ++ y ∷ ys) → Repeats y xs → ⊥
new_at [] y ys d r = r
new_at (x ∷ xs) y ys d (inl e) = d.0 (subst (λ z. Repeats z (xs ++ y ∷ ys)) e (repeats_at xs y ys))
new_at (x ∷ xs) y ys d (inr r) = new_at xs y ys d.1 r

-- no sound record begins at the rest
pub record Stops (names : List (List ℕ)) (circuits : List Circuit) (rest : List ℕ) : Type 0 where
  pub no_place : circuits ≡ [] → (name more : List ℕ) → rest ≡ place_bytes name ++ more → Name name → length names < 128 → (Repeats name names → ⊥) → ⊥
  pub no_circuit : (c : Circuit) (more : List ℕ) → rest ≡ circuit_bytes c ++ more → Sound (length names) c → length circuits < 384 → ⊥

-- a reading that stops is not the front of a longer one
no_longer_names : (n m : List (List ℕ)) (c d : List Circuit) (r : List ℕ) → Records m d → Stops n c r → Longer place_bytes n m (concat (map circuit_bytes c) ++ r) → ⊥
no_longer_names n m [] d r g s l =
    let e = l.is in
    let k = ap length e ∙ length-append n (l.next ∷ l.later) in
    let f : length n < 128 = omega (arith, g.few_places) in
    let a : Name l.next = each_at Name n l.next l.later (subst (λ z. Each Name z) e g.names_fit) in
    s.no_place refl l.next l.more l.begins a f (new_at n l.next l.later (subst (λ z. Different z) e g.names_differ))
no_longer_names n m (x ∷ c) d r g s l =
    let e = l.begins in
    let z : ◌≡◌ {A = ℕ} 67 80 = cc in omega arith

no_longer_circuits : (n : List (List ℕ)) (c d : List Circuit) (r : List ℕ) → Records n d → Stops n c r → Longer circuit_bytes c d r → ⊥
no_longer_circuits n c d r g s l =
    let e = l.is in
    let k = ap length e ∙ length-append c (l.next ∷ l.later) in
    let f : length c < 384 = omega (arith, g.few_circuits) in
    s.no_circuit l.next l.more l.begins (each_at (Sound (length n)) c l.next l.later (subst (λ z. Each (Sound (length n)) z) e g.sound)) f

-- two readings of the same bytes that both stop are one
pub record Same (n m : List (List ℕ)) (c d : List Circuit) (r s : List ℕ) : Type 0 where
  pub names : n ≡ m
  pub circuits : c ≡ d
  pub rest : r ≡ s

fits : (n : List (List ℕ)) (c : List Circuit) → Records n c → Each Fit c
fits n c g = each_map (Sound (length n)) Fit (λ x s. sound_fits (length n) x g.few_places s) c g.sound

same_circuits : (n : List (List ℕ)) (c d : List Circuit) (r s : List ℕ) → Records n c → Records n d → Stops n c r → Stops n d s → Walked circuit_bytes Fit cut_circuit c d r s → Same n n c d r s
same_circuits n c d r s g h p q (inl e) = record { names = refl; circuits = e.0; rest = e.1 }
same_circuits n c d r s g h p q (inr (inl l)) = absurd (no_longer_circuits n c d r h p l)
same_circuits n c d r s g h p q (inr (inr l)) = absurd (no_longer_circuits n d c s g q l)

same_names : (n m : List (List ℕ)) (c d : List Circuit) (r s : List ℕ) → Records n c → Records m d → Stops n c r → Stops m d s → Walked place_bytes Name cut_place n m (concat (map circuit_bytes c) ++ r) (concat (map circuit_bytes d) ++ s) → Same n m c d r s
same_names n m c d r s g h p q (inl e) =
    subst (λ k. Records k d → Stops k d s → Same n k c d r s) e.0 (λ h' q'. same_circuits n c d r s g h' p q' (walk circuit_bytes Fit cut_circuit c d r s (fits n c g) (fits n d h') e.1)) h q
same_names n m c d r s g h p q (inr (inl l)) = absurd (no_longer_names n m c d r h p l)
same_names n m c d r s g h p q (inr (inr l)) = absurd (no_longer_names m n d c s g q l)

pub same_reading : (n m : List (List ℕ)) (c d : List Circuit) (r s : List ℕ) → Records n c → Records m d → Stops n c r → Stops m d s → records_bytes n c ++ r ≡ records_bytes m d ++ s → Same n m c d r s
same_reading n m c d r s g h p q e =
    same_names n m c d r s g h p q (walk place_bytes Name cut_place n m (concat (map circuit_bytes c) ++ r) (concat (map circuit_bytes d) ++ s) g.names_fit h.names_fit (sym (append_assoc (concat (map place_bytes n)) (concat (map circuit_bytes c)) r) ∙ e ∙ append_assoc (concat (map place_bytes m)) (concat (map circuit_bytes d)) s))

pl_ct : (t : List ℕ) → t ≡ PL → t ≡ CT → ⊥
pl_ct t p q = let z : ◌≡◌ {A = ℕ} 80 67 = cc in omega arith

pl_en : (t : List ℕ) → t ≡ PL → t ≡ EN → ⊥
pl_en t p q = let z : ◌≡◌ {A = ℕ} 80 69 = cc in omega arith

ct_en : (t : List ℕ) → t ≡ CT → t ≡ EN → ⊥
ct_en t p q = let z : ◌≡◌ {A = ℕ} 67 69 = cc in omega arith

module _ (names : List (List ℕ)) (circuits : List Circuit) (rest : List ℕ) where
  -- the checks of the mark that stands there, and no others
  abbrev Kinds : ℕ → Type 0
  Kinds k = (Marked names circuits rest PL × First k (place_checks names circuits rest)) ⊎ ((Marked names circuits rest CT × First k (circuit_checks names circuits rest)) ⊎ (Marked names circuits rest EN × First k (end_checks names circuits rest)))

  one_kind : (k j : ℕ) → Kinds k → Kinds j → k ≡ j
  one_kind k j (inl p) (inl q) = one_first k j (place_checks names circuits rest) p.1 q.1
  one_kind k j (inl p) (inr (inl q)) = absurd (pl_ct (take 2 rest) p.0 q.0)
  one_kind k j (inl p) (inr (inr q)) = absurd (pl_en (take 2 rest) p.0 q.0)
  one_kind k j (inr (inl p)) (inl q) = absurd (pl_ct (take 2 rest) q.0 p.0)
  one_kind k j (inr (inl p)) (inr (inl q)) = one_first k j (circuit_checks names circuits rest) p.1 q.1
  one_kind k j (inr (inl p)) (inr (inr q)) = absurd (ct_en (take 2 rest) p.0 q.0)
  one_kind k j (inr (inr p)) (inl q) = absurd (pl_en (take 2 rest) q.0 p.0)
  one_kind k j (inr (inr p)) (inr (inl q)) = absurd (ct_en (take 2 rest) q.0 p.0)
  one_kind k j (inr (inr p)) (inr (inr q)) = one_first k j (end_checks names circuits rest) p.1 q.1

  pub one_fault : (k j : ℕ) → Fault names circuits rest k → Fault names circuits rest j → k ≡ j
  one_fault k j (inl p) (inl q) = one_first k j (mark_checks names circuits rest) p q
  one_fault k j (inl p) (inr q) = absurd (passed_first k (mark_checks names circuits rest) q.0 p)
  one_fault k j (inr p) (inl q) = absurd (passed_first j (mark_checks names circuits rest) p.0 q)
  one_fault k j (inr p) (inr q) = one_kind k j p.1 q.1

  -- a mark that stands, with its checks passed, leaves no fault
  mark_passes : (Marked names circuits rest PL ⊎ (Marked names circuits rest CT ⊎ Marked names circuits rest EN)) → 2 ≤ length rest → Passed (mark_checks names circuits rest)
  mark_passes m l = ((λ h. omega arith), ((λ h. h m), tt))

  pub place_no_fault : (k : ℕ) → 2 ≤ length rest → Marked names circuits rest PL → Passed (place_checks names circuits rest) → Fault names circuits rest k → ⊥
  place_no_fault k l m p (inl f) = passed_first k (mark_checks names circuits rest) (mark_passes (inl m) l) f
  place_no_fault k l m p (inr (q, inl f)) = passed_first k (place_checks names circuits rest) p f.1
  place_no_fault k l m p (inr (q, inr (inl f))) = pl_ct (take 2 rest) m f.0
  place_no_fault k l m p (inr (q, inr (inr f))) = pl_en (take 2 rest) m f.0

  pub circuit_no_fault : (k : ℕ) → 2 ≤ length rest → Marked names circuits rest CT → Passed (circuit_checks names circuits rest) → Fault names circuits rest k → ⊥
  circuit_no_fault k l m p (inl f) = passed_first k (mark_checks names circuits rest) (mark_passes (inr (inl m)) l) f
  circuit_no_fault k l m p (inr (q, inl f)) = pl_ct (take 2 rest) f.0 m
  circuit_no_fault k l m p (inr (q, inr (inl f))) = passed_first k (circuit_checks names circuits rest) p f.1
  circuit_no_fault k l m p (inr (q, inr (inr f))) = ct_en (take 2 rest) m f.0

  pub end_no_fault : (k : ℕ) → 2 ≤ length rest → Marked names circuits rest EN → Passed (end_checks names circuits rest) → Fault names circuits rest k → ⊥
  end_no_fault k l m p (inl f) = passed_first k (mark_checks names circuits rest) (mark_passes (inr (inr m)) l) f
  end_no_fault k l m p (inr (q, inl f)) = pl_en (take 2 rest) f.0 m
  end_no_fault k l m p (inr (q, inr (inl f))) = ct_en (take 2 rest) f.0 m
  end_no_fault k l m p (inr (q, inr (inr f))) = passed_first k (end_checks names circuits rest) p f.1

-- the circuit that a circuit's bytes stand for
pub told_circuit : (names : List (List ℕ)) (circuits : List Circuit) (c : Circuit) (more : List ℕ) → Fit c → told names circuits (circuit_bytes c ++ more) ≡ c
told_circuit names circuits c more f =
    same_circuit (told names circuits (circuit_bytes c ++ more)) c (two_of c.from f.from_fits) (two_of c.to f.to_fits) (four_of c.bandwidth f.bandwidth_fits) (four_of c.cost f.cost_fits)

-- a place that the records can take passes each check
pub place_passes : (names : List (List ℕ)) (name more : List ℕ) → Name name → length names < 128 → (Repeats name names → ⊥) → Passed (place_checks names [] (place_bytes name ++ more))
place_passes names name more g l new =
    let k = length-append name more in (
      (λ h. omega arith),
      (
        (λ h. omega arith),
        (
          (λ h. omega arith),
          (
            (λ h. h g),
            (
              (λ h. omega arith),
              (
                (λ h. new (subst (λ z. Repeats z names) (take_at name more (length name) refl) h)),
                tt,
              ),
            ),
          ),
        ),
      ),
    )

-- a circuit that the records can take passes each check
pub circuit_passes : (names : List (List ℕ)) (circuits : List Circuit) (c : Circuit) (more : List ℕ) → length names ≤ 128 → Sound (length names) c → length circuits < 384 → Passed (circuit_checks names circuits (circuit_bytes c ++ more))
circuit_passes names circuits c more n s l =
    let e = told_circuit names circuits c more (sound_fits (length names) c n s) in (
      (λ h. omega arith),
      (
        (λ h. omega arith),
        (
          (λ h. good_ends (length names) c s (subst (λ z. BadEnds (length names) z) e h)),
          (
            (λ h. good_figures (length names) c s (subst (λ z. BadFigures z) e h)),
            tt,
          ),
        ),
      ),
    )

-- the end of sound records passes each check
pub end_passes : (names : List (List ℕ)) (circuits : List Circuit) → Records names circuits → Passed (end_checks names circuits (end_bytes (length names + length circuits)))
end_passes names circuits g =
    let l : length names + length circuits < 65536 = omega (arith, g.few_places, g.few_circuits) in
    ((λ h. omega arith), ((λ h. h (two_of (length names + length circuits) l, refl)), tt))

-- a fault is no sound record, and an end is none
pub fault_stops : (names : List (List ℕ)) (circuits : List Circuit) (rest : List ℕ) (k : ℕ) → Records names circuits → Fault names circuits rest k → Stops names circuits rest
fault_stops names circuits rest k g f = record {
  no_place = λ e name more w a l new. place_no_fault names [] (place_bytes name ++ more) k (omega arith) refl (place_passes names name more a l new) (subst (λ z. Fault names [] z k) w (subst (λ z. Fault names z rest k) e f));
  no_circuit = λ c more w s l. circuit_no_fault names circuits (circuit_bytes c ++ more) k (omega arith) refl (circuit_passes names circuits c more g.few_places s l) (subst (λ z. Fault names circuits z k) w f);
}

pub end_stops : (names : List (List ℕ)) (circuits : List Circuit) (n : ℕ) → Stops names circuits (end_bytes n)
end_stops names circuits n = record {
  no_place = λ e name more w a l new. (let z : ◌≡◌ {A = ℕ} 69 80 = cc in omega arith);
  no_circuit = λ c more w s l. (let z : ◌≡◌ {A = ℕ} 69 67 = cc in omega arith);
}

-- the bytes of an image say which names and circuits it holds
pub one_reading : (bytes : List ℕ) (names names' : List (List ℕ)) (circuits circuits' : List Circuit) → Image bytes names circuits → Image bytes names' circuits' → (names ≡ names') × (circuits ≡ circuits')
one_reading bytes n m c d i j =
    let s = same_reading n m c d (end_bytes (length n + length c)) (end_bytes (length m + length d)) i.records j.records (end_stops n c (length n + length c)) (end_stops m d (length m + length d)) (sym i.written ∙ j.written) in
    (s.names, s.circuits)

-- what is refused is no image
pub refused_no_image : (bytes : List ℕ) (k o : ℕ) (names : List (List ℕ)) (circuits : List Circuit) → Refused bytes k o → Image bytes names circuits → ⊥
refused_no_image bytes k o m d f i =
    let n = f.names in
    let c = f.circuits in
    let s = same_reading n m c d f.rest (end_bytes (length m + length d)) f.records i.records (fault_stops n c f.rest k f.records f.fault) (end_stops m d (length m + length d)) (sym f.before ∙ i.written) in
    let a : Fault m c f.rest k = subst (λ z. Fault z c f.rest k) s.names f.fault in
    let b : Fault m d f.rest k = subst (λ z. Fault m z f.rest k) s.circuits a in
    end_no_fault m d (end_bytes (length m + length d)) k (omega arith) refl (end_passes m d i.records) (subst (λ z. Fault m d z k) s.rest b)

-- a refused load has one number and one offset
pub one_refusal : (bytes : List ℕ) (k k' o o' : ℕ) → Refused bytes k o → Refused bytes k' o' → (k ≡ k') × (o ≡ o')
one_refusal bytes k k' o o' f h =
    let n = f.names in
    let c = f.circuits in
    let m = h.names in
    let d = h.circuits in
    let s = same_reading n m c d f.rest h.rest f.records h.records (fault_stops n c f.rest k f.records f.fault) (fault_stops m d h.rest k' h.records h.fault) (sym f.before ∙ h.before) in
    let a : Fault m c f.rest k = subst (λ z. Fault z c f.rest k) s.names f.fault in
    let b : Fault m d f.rest k = subst (λ z. Fault m z f.rest k) s.circuits a in
    let e : Fault m d h.rest k = subst (λ z. Fault m d z k) s.rest b in
    let p = s.names in
    let q = s.circuits in
    let u : o ≡ length (records_bytes n c) = f.at in
    let v : o' ≡ length (records_bytes m d) = h.at in
    (one_fault m d h.rest k k' e h.fault, u ∙ ap (λ z. length (records_bytes z c)) p ∙ ap (λ z. length (records_bytes m z)) q ∙ sym v)
