-- The chains of the arcs: how they are made, and a walk along one. Assumes nothing.
use Rattle.std.proofs.Common.{◌≡◌, ℕ, zero, suc, ◌+◌, ◌-◌, ◌==◌, ◌<◌, ◌≤◌, ◌⊎◌, List, [], ◌∷◌, ◌++◌, length, drop, get_or, set, replicate, sym, refl, ap, ◌∙◌, subst, inl, inr, ⊎_elim, arith, length-set}
use Rattle.std.proofs.Math.Seq.{drop-cons, get_or-append_seam}
use Rattle.std.specs.List.{All, filter, enumerate_from}
use Rattle.std.proofs.lemmas.List.{get_or-set_same, get_or-set_other, get_or-replicate, length-replicate, length-append, drop_all}
use Rattle.std.proofs.lemmas.Bool.{cases_eq, cases_lt, eq-eqb, ne_eqb, cond-true, cond-false}
use Rattle.search.specs.declared.Arc.{Arc}
use Rattle.search.specs.declared.graph.By.{By}
use Rattle.search.specs.declared.graph.By.TheVariants.{Start, End}
use Rattle.search.specs.Graph.{none, arc, Proper}
use Rattle.search.specs.Links.{Following, Linked, end_by, arcs_at}

module _ (g : List Arc) (e : Arc → ℕ) where
  -- chains without an arc
  pub linked_none : (lo : ℕ) (first next : List ℕ) → length g ≤ lo → lo ≤ 384 → first ≡ replicate 128 384 → next ≡ replicate 384 384 → Linked g e lo first next
  linked_none lo first next past few ef en = record {
    starts = λ p l.
        let at : get_or first p 0 ≡ 384 = ap (λ xs. get_or xs p 0) ef ∙ get_or-replicate 128 p 384 0 l in
        record { after = omega (arith, at); on = λ h. absurd (omega (arith, h, at)); gap = λ d h _ l. absurd (omega (arith, h, l)) };
    goes_on = λ c h l. absurd (omega arith);
    wide = ap length ef ∙ length-replicate {A = ℕ} 128 384;
    long = ap length en ∙ length-replicate {A = ℕ} 384 384;
  }

  -- the arc c put before those with higher numbers
  module _ (c lo : ℕ) (first next first' next' : List ℕ) (above : lo ≡ c + 1) (is : c < length g) (few : length g ≤ 384) (within : e (arc g c) < 128)
      (old : Linked g e lo first next) (ef : first' ≡ set first (e (arc g c)) c) (en : next' ≡ set next c (get_or first (e (arc g c)) 0)) where
    abbrev here : ℕ
    here = e (arc g c)

    head : get_or first' here 0 ≡ c
    head = ap (λ xs. get_or xs here 0) ef ∙ get_or-set_same first here c 0 (omega (arith, within, old.wide))

    heads : (p : ℕ) → (p ≡ here → ⊥) → get_or first' p 0 ≡ get_or first p 0
    heads p ne = ap (λ xs. get_or xs p 0) ef ∙ get_or-set_other first here p c 0 ne

    link : get_or next' c 0 ≡ get_or first here 0
    link = ap (λ xs. get_or xs c 0) en ∙ get_or-set_same next c (get_or first here 0) 0 (omega (arith, is, few, old.long))

    links : (d : ℕ) → (d ≡ c → ⊥) → get_or next' d 0 ≡ get_or next d 0
    links d ne = ap (λ xs. get_or xs d 0) en ∙ get_or-set_other next c d (get_or first here 0) 0 ne

    at_here : Following g e here c c
    at_here = record { after = omega arith; on = λ _. refl; gap = λ d h k _ _. omega (arith, h, k) }

    lower : (p : ℕ) → p < 128 → (p ≡ here → ⊥) → Following g e p c (get_or first p 0)
    lower p l ne =
        let f = old.starts p l in
        record {
          after = omega (arith, f.after, above);
          on = f.on;
          gap = λ d h k m at.
              ⊎_elim
              (λ (same : d ≡ c). ne (sym at ∙ ap (λ i. e (arc g i)) same))
              (λ (apart : d ≡ c → ⊥). f.gap d (omega (arith, h, apart, above)) k m at)
              (cases_eq d c);
        }

    pub linked_more : Linked g e c first' next'
    linked_more = record {
      starts = λ p l.
          ⊎_elim
          (λ (same : p ≡ here). subst (λ q. Following g e q c (get_or first' q 0)) (sym same) (subst (λ r. Following g e here c r) (sym head) at_here))
          (λ (ne : p ≡ here → ⊥). subst (λ r. Following g e p c r) (sym (heads p ne)) (lower p l ne))
          (cases_eq p here);
      goes_on = λ d h l.
          ⊎_elim
          (λ (same : d ≡ c). subst (λ i. Following g e (e (arc g i)) (i + 1) (get_or next' i 0)) (sym same) (subst (λ r. Following g e here (c + 1) r) (sym link) (subst (λ n. Following g e here n (get_or first here 0)) above (old.starts here within))))
          (λ (ne : d ≡ c → ⊥). subst (λ r. Following g e (e (arc g d)) (d + 1) r) (sym (links d ne)) (old.goes_on d (omega (arith, h, ne, above)) l))
          (cases_eq d c);
      wide = ap length ef ∙ length-set first here c ∙ old.wide;
      long = ap length en ∙ length-set next c (get_or first here 0) ∙ old.long;
    }

pub end_within : (g : List Arc) (n : ℕ) → Proper g n → (by : By) (c : ℕ) → c < length g → end_by by (arc g c) < n
end_within g n proper Start c l = (proper.joins c l).from_in
end_within g n proper End c l = (proper.joins c l).to_in

-- the last of the arcs that are not chained yet
module _ (g : List Arc) (by : By) (proper : Proper g 128) (before after : List Arc) (x : Arc) (split : before ++ x ∷ after ≡ g) where
  last : arc g (length before) ≡ x
  last = ap (λ xs. arc xs (length before)) (sym split) ∙ get_or-append_seam before x after none

  within : length before < length g
  within = omega (arith, ap length split, length-append before (x ∷ after))

  pub linked_last : (first next : List ℕ) (c p : ℕ) → Linked g (end_by by) (length before + 1) first next → c ≡ length before → p ≡ end_by by x → Linked g (end_by by) (length before) (set first p c) (set next c (get_or first p 0))
  linked_last first next c p old at place =
      let e = end_by by in
      subst (λ d. Linked g e (length before) (set first p d) (set next d (get_or first p 0))) (sym at)
      (subst (λ q. Linked g e (length before) (set first q (length before)) (set next (length before) (get_or first q 0))) (ap e last ∙ sym place)
      (linked_more g e (length before) (length before + 1) first next _ _ refl within proper.few_arcs (end_within g 128 proper by _ within) old refl refl))

-- x is one of the arcs that have the place p at that end, with its number
pub record IsAt (g : List Arc) (by : By) (p : ℕ) (x : ℕ × Arc) : Type 0 where
  pub is : x.0 < length g
  pub same : x.1 ≡ arc g x.0
  pub on : end_by by x.1 ≡ p

-- all of the list are
abbrev AllAt : List Arc → By → ℕ → List (ℕ × Arc) → Type 0
AllAt g by p [] = Unit {0}
AllAt g by p (x ∷ xs) = IsAt g by p x × AllAt g by p xs

-- the arc d stands in the list
abbrev Among : ℕ → List (ℕ × Arc) → Type 0
Among d [] = ⊥
Among d (x ∷ xs) = (d ≡ x.0) ⊎ Among d xs

-- the list has arcs with the place p at that end, and P holds of each other one
pub record Walked (g : List Arc) (by : By) (p : ℕ) (P : ℕ → Type 0) (left : List (ℕ × Arc)) : Type 0 where
  pub all : AllAt g by p left
  pub dealt : (d : ℕ) → d < length g → end_by by (arc g d) ≡ p → Among d left ⊎ P d

module _ (g : List Arc) (by : By) (p : ℕ) where
  abbrev fits : ℕ → ℕ
  fits c = end_by by (arc g c)

  past : (c : ℕ) → length g ≤ c → arcs_at g by p c ≡ []
  past c l = ap (λ xs. filter (λ x. end_by by x.1 == p) (enumerate_from c xs)) (drop_all c g l)

  next : (c : ℕ) → c < length g → arcs_at g by p c ≡ filter (λ x. end_by by x.1 == p) ((c, arc g c) ∷ enumerate_from (c + 1) (drop (c + 1) g))
  next c l =
      ap (λ xs. filter (λ x. end_by by x.1 == p) (enumerate_from c xs)) (drop-cons g c none l)
      ∙ ap (λ d. filter (λ x. end_by by x.1 == p) ((c, arc g c) ∷ enumerate_from (c + 1) (drop d g))) (let one : suc c ≡ c + 1 = omega arith in one)

  pub arcs_here : (c : ℕ) → c < length g → fits c ≡ p → arcs_at g by p c ≡ (c, arc g c) ∷ arcs_at g by p (c + 1)
  arcs_here c l e = next c l ∙ cond-true (fits c == p) _ _ (eq-eqb _ _ e)

  arcs_other : (c : ℕ) → c < length g → (fits c ≡ p → ⊥) → arcs_at g by p c ≡ arcs_at g by p (c + 1)
  arcs_other c l ne = next c l ∙ cond-false (fits c == p) _ _ (ne_eqb _ _ ne)

  -- where no arc from lo up to c has the place, the next one is c or after it
  arcs_skip : (n lo c : ℕ) → lo + n ≡ c → ((d : ℕ) → lo ≤ d → d < c → d < length g → fits d ≡ p → ⊥) → arcs_at g by p lo ≡ arcs_at g by p c
  arcs_skip zero lo c e gap = ap (arcs_at g by p) (omega arith)
  arcs_skip (suc n) lo c e gap =
      ⊎_elim
      (λ (l : lo < length g). arcs_other lo l (gap lo (omega arith) (omega arith) l) ∙ arcs_skip n (lo + 1) c (omega arith) (λ d h k. gap d (omega arith) k))
      (λ (all : length g ≤ lo). past lo all ∙ sym (past c (omega arith)))
      (cases_lt lo (length g))

  pub arcs_from : (lo c : ℕ) → Following g (end_by by) p lo c → arcs_at g by p lo ≡ arcs_at g by p c
  arcs_from lo c f = arcs_skip (c - lo) lo c (omega (arith, f.after)) f.gap

  -- one arc along a chain
  pub arcs_turn : (first next : List ℕ) → Linked g (end_by by) 0 first next → (c : ℕ) → c < length g → fits c ≡ p → (x : Arc) → x ≡ arc g c → arcs_at g by p c ≡ (c, x) ∷ arcs_at g by p (get_or next c 0)
  arcs_turn first next linked c l e x same =
      let on = arcs_from (c + 1) (get_or next c 0) (subst (λ q. Following g (end_by by) q (c + 1) (get_or next c 0)) e (linked.goes_on c (omega arith) l)) in
      arcs_here c l e ∙ ap (λ r. (c, arc g c) ∷ r) on ∙ ap (λ y. (c, y) ∷ arcs_at g by p (get_or next c 0)) (sym same)

  all_at : (n c : ℕ) → length g ≤ c + n → AllAt g by p (arcs_at g by p c)
  all_at zero c h = subst (AllAt g by p) (sym (past c (omega arith))) tt
  all_at (suc n) c h =
      ⊎_elim
      (λ (l : c < length g).
      ⊎_elim
      (λ (e : fits c ≡ p). subst (AllAt g by p) (sym (arcs_here c l e)) (record { is = l; same = refl; on = e }, all_at n (c + 1) (omega arith)))
      (λ (ne : fits c ≡ p → ⊥). subst (AllAt g by p) (sym (arcs_other c l ne)) (all_at n (c + 1) (omega arith)))
      (cases_eq (fits c) p))
      (λ (all : length g ≤ c). subst (AllAt g by p) (sym (past c all)) tt)
      (cases_lt c (length g))

  each_among : (n c d : ℕ) → c + n ≡ d → d < length g → fits d ≡ p → Among d (arcs_at g by p c)
  each_among zero c d e l at =
      subst (λ i. Among d (arcs_at g by p i)) (let same : d ≡ c = omega arith in same) (subst (Among d) (sym (arcs_here d l at)) (inl refl))
  each_among (suc n) c d e l at =
      let rest = each_among n (c + 1) d (omega arith) l at in
      ⊎_elim
      (λ (here : fits c ≡ p). subst (Among d) (sym (arcs_here c (omega arith) here)) (inr rest))
      (λ (ne : fits c ≡ p → ⊥). subst (Among d) (sym (arcs_other c (omega arith) ne)) rest)
      (cases_eq (fits c) p)

  among_within : (P : ℕ × Arc → Type 0) (xs : List (ℕ × Arc)) (d : ℕ) → AllAt g by p xs → All P xs → Among d xs → P (d, arc g d)
  among_within P [] d at all m = absurd m
  among_within P (x ∷ xs) d at all m =
      ⊎_elim
      (λ (e : d ≡ x.0). subst (λ i. P (i, arc g i)) (sym e) (subst (λ a. P (x.0, a)) at.0.same (all 0 x (omega arith))))
      (λ m. among_within P xs d at.1 (λ k y l. all (suc k) y (omega arith)) m)
      m

  -- what holds of each arc with its number
  pub each_at : (P : ℕ × Arc → Type 0) → All P (arcs_at g by p 0) → (d : ℕ) → d < length g → fits d ≡ p → P (d, arc g d)
  each_at P all d l at =
      among_within P (arcs_at g by p 0) d (all_at (length g) 0 (omega arith)) all (each_among d 0 d (omega arith) l at)

  at_index : (xs : List (ℕ × Arc)) (i : ℕ) (x : ℕ × Arc) → AllAt g by p xs → i < length xs → IsAt g by p (get_or xs i x)
  at_index [] i x at l = absurd (omega arith)
  at_index (y ∷ xs) zero x at l = at.0
  at_index (y ∷ xs) (suc i) x at l = at_index xs i x at.1 (omega arith)

  -- what stands in the list is one of the arcs
  pub found_at : (i : ℕ) (x : ℕ × Arc) → i < length (arcs_at g by p 0) → get_or (arcs_at g by p 0) i x ≡ x → IsAt g by p x
  found_at i x l e = subst (IsAt g by p) e (at_index (arcs_at g by p 0) i x (all_at (length g) 0 (omega arith)) l)

  module _ (P : ℕ → Type 0) where
    pub walked_none : (left : List (ℕ × Arc)) → left ≡ arcs_at g by p 0 → Walked g by p P left
    walked_none left e =
        subst (Walked g by p P) (sym e) (record { all = all_at (length g) 0 (omega arith); dealt = λ d l at. inl (each_among d 0 d (omega arith) l at) })

    module _ (left next : List (ℕ × Arc)) (x : ℕ × Arc) (e : left ≡ x ∷ next) where
      pub walked_at : Walked g by p P left → IsAt g by p x
      walked_at w = (subst (AllAt g by p) e w.all).0

      -- one arc on; what held of the others still holds
      pub walked_more : (Q : ℕ → Type 0) → Walked g by p P left → ((d : ℕ) → P d → Q d) → Q x.0 → Walked g by p Q next
      walked_more Q w still here = record {
        all = (subst (AllAt g by p) e w.all).1;
        dealt = λ d l at.
            ⊎_elim
            (λ m. ⊎_elim (λ (same : d ≡ x.0). inr (subst Q (sym same) here)) (λ m. inl m) (subst (Among d) e m))
            (λ h. inr (still d h))
            (w.dealt d l at);
      }

    pub walked_all : (left : List (ℕ × Arc)) → left ≡ [] → Walked g by p P left → (d : ℕ) → d < length g → end_by by (arc g d) ≡ p → P d
    walked_all left e w d l at = ⊎_elim (λ m. absurd (subst (Among d) e m)) (λ h. h) (w.dealt d l at)
