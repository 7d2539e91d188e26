-- The roll of the places that are seen, one place more. Assumes nothing.
use Rattle.std.proofs.Common.{◌≡◌, false, ltb, ℕ, zero, suc, ◌+◌, ◌-◌, ◌<◌, ◌≤◌, ◌⊎◌, List, [], ◌∷◌, length, get_or, set, replicate, sym, refl, ap, ◌∙◌, subst, inl, inr, ⊎_elim, arith, length-set}
use Rattle.std.proofs.lemmas.List.{get_or-set_same, get_or-set_other, length-replicate}
use Rattle.std.proofs.lemmas.Bool.{cases_eq, cases_lt, ltb-false}
use Rattle.search.specs.declared.Arc.{Arc}
use Rattle.search.specs.declared.spread.Seen.{Seen}
use Rattle.search.specs.Graph.{arc}
use Rattle.search.specs.Trees.{zeros, Roll, Forth, Back, Step, Tree}
use Rattle.search.specs.Rolls.{IsSeen, Noted, More, OfFirst}

zeros_set : (l : List ℕ) (i x : ℕ) → i < length l → get_or l i 0 ≡ 0 → 0 < x → zeros (set l i x) + 1 ≡ zeros l
zeros_set [] i x h e p = absurd (omega arith)
zeros_set (zero ∷ l) zero zero h e p = absurd (omega arith)
zeros_set (zero ∷ l) zero (suc x) h e p = omega arith
zeros_set (suc y ∷ l) zero x h e p = absurd (omega arith)
zeros_set (zero ∷ l) (suc i) x h e p = omega (arith, zeros_set l i x (omega arith) e p)
zeros_set (suc y ∷ l) (suc i) x h e p = zeros_set l i x (omega arith) e p

zeros_none : (n : ℕ) → zeros (replicate n 0) ≡ n
zeros_none zero = refl
zeros_none (suc n) = omega (arith, zeros_none n)

pub getD_none : (n i : ℕ) → ◌≡◌ {A = ℕ} (get_or (replicate n 0) i 0) 0
getD_none zero i = refl
getD_none (suc n) zero = refl
getD_none (suc n) (suc i) = getD_none n i

-- a step stands where the places that it rests on keep their ranks
pub step_kept : (g : List Arc) (f : List ℕ) (F F' : ℕ → Type 0) (rank rank' : List ℕ) (d q : ℕ) → (F d → F' d) → ((p : ℕ) → 0 < get_or rank p 0 → get_or rank' p 0 ≡ get_or rank p 0) → 0 < get_or rank q 0 → Step g f F rank d q → Step g f F' rank' d q
step_kept g f F F' rank rank' d q allows kept h s = record {
  is = s.is;
  way = ⊎_elim
      (λ (w : Forth g F rank d q). inl (record {
        at = w.at;
        free = allows w.free;
        seen = omega (arith, w.seen, kept (arc g d).from w.seen);
        lower = omega (arith, w.lower, kept (arc g d).from w.seen, kept q h);
      }))
      (λ (w : Back g f rank d q). inr (record {
        at = w.at;
        carries = w.carries;
        seen = omega (arith, w.seen, kept (arc g d).to w.seen);
        lower = omega (arith, w.lower, kept (arc g d).to w.seen, kept q h);
      }))
      s.way;
}

-- only the root is seen
module _ (root : ℕ) (place : root < 128) where
  abbrev blank : List ℕ
  blank = replicate 128 0

  abbrev lone : List ℕ
  lone = set blank root 1

  wide : length blank ≡ 128
  wide = length-replicate {A = ℕ} 128 0

  pub root_first : get_or lone root 0 ≡ 1
  root_first = get_or-set_same blank root 1 0 (omega (arith, wide))

  alone : (p : ℕ) → (p ≡ root → ⊥) → get_or lone p 0 ≡ 0
  alone p ne = get_or-set_other blank root p 1 0 ne ∙ getD_none 128 p

  pub only_root : (p : ℕ) → 0 < get_or lone p 0 → p ≡ root
  only_root p h = ⊎_elim (λ e. e) (λ ne. absurd (omega (arith, h, alone p ne))) (cases_eq p root)

  root_listed : get_or (set blank 0 root) 0 0 ≡ root
  root_listed = get_or-set_same blank 0 root 0 (omega (arith, wide))

  pub roll_new : Roll 1 lone blank (set blank 0 root)
  roll_new = record {
    counted = omega (arith, zeros_set blank root 1 (omega (arith, wide)) (getD_none 128 root) (omega arith), zeros_none 128);
    below = λ p. ⊎_elim (λ (e : p ≡ root). omega (arith, ap (λ i. get_or lone i 0) e, root_first)) (λ ne. omega (arith, alone p ne)) (cases_eq p root);
    listed = λ i l.
        let z : i ≡ 0 = omega arith in
        ap (λ j. get_or lone (get_or (set blank 0 root) j 0) 0) z ∙ ap (λ q. get_or lone q 0) root_listed ∙ root_first ∙ ap (λ j. j + 1) (sym z);
    placed = λ p h.
        let e = only_root p h in
        let z : get_or lone p 0 - 1 ≡ 0 = omega (arith, ap (λ i. get_or lone i 0) e, root_first) in
        ap (λ j. get_or (set blank 0 root) j 0) z ∙ root_listed ∙ sym e;
    rank_long = length-set blank root 1 ∙ wide;
    via_long = wide;
    order_long = length-set blank 0 root ∙ wide;
  }

pub tree_new : (s : Seen) (root : ℕ) → s.count ≡ 1 → IsSeen s root → ((p : ℕ) → IsSeen s p → p ≡ root) → (g : List Arc) (f : List ℕ) (F : ℕ → Type 0) → Tree g f F root s.rank s.via
tree_new s root one seen only g f F = record {
  root_seen = seen;
  step = λ p ne h. absurd (ne (only p h));
  few = λ p. omega (arith, s.roll.below p, one);
  long = s.roll.rank_long;
}

-- what `has` says of a place that is not seen
pub unseen : (rank : ℕ) → false ≡ ltb 0 rank → rank ≡ 0
unseen rank denied = omega (arith, ltb-false 0 rank (sym denied))

-- a place that is not seen can be put on the roll
module _ (s : Seen) (p : ℕ) (new : get_or s.rank p 0 ≡ 0) (place : p < 128) where
  pub room : s.count < 128
  room = omega (arith, s.roll.counted, zeros_set s.rank p 1 (omega (arith, s.roll.rank_long)) new (omega arith))

  module _ (c : ℕ) where
    abbrev rank : List ℕ
    rank = set s.rank p (s.count + 1)

    abbrev via : List ℕ
    via = set s.via p c

    abbrev order : List ℕ
    order = set s.order s.count p

    here : get_or rank p 0 ≡ s.count + 1
    here = get_or-set_same s.rank p (s.count + 1) 0 (omega (arith, s.roll.rank_long))

    there : (q : ℕ) → (q ≡ p → ⊥) → get_or rank q 0 ≡ get_or s.rank q 0
    there q ne = get_or-set_other s.rank p q (s.count + 1) 0 ne

    last : get_or order s.count 0 ≡ p
    last = get_or-set_same s.order s.count p 0 (omega (arith, s.roll.order_long, room))

    before : (i : ℕ) → i < s.count → get_or order i 0 ≡ get_or s.order i 0
    before i l = get_or-set_other s.order s.count i p 0 (omega arith)

    other : (q : ℕ) → IsSeen s q → q ≡ p → ⊥
    other q h e = omega (arith, h, ap (λ i. get_or s.rank i 0) e, new)

    pub roll_join : Roll (s.count + 1) rank via order
    roll_join = record {
      counted = omega (arith, s.roll.counted, zeros_set s.rank p (s.count + 1) (omega (arith, s.roll.rank_long)) new (omega arith));
      below = λ q.
          ⊎_elim
          (λ (e : q ≡ p). omega (arith, ap (λ i. get_or rank i 0) e, here))
          (λ ne. omega (arith, there q ne, s.roll.below q))
          (cases_eq q p);
      listed = λ i l.
          ⊎_elim
          (λ (low : i < s.count).
          let old = s.roll.listed i low in
          let seen : IsSeen s (get_or s.order i 0) = omega (arith, old) in
          ap (λ q. get_or rank q 0) (before i low) ∙ there (get_or s.order i 0) (other _ seen) ∙ old)
          (λ (high : s.count ≤ i).
          let at : i ≡ s.count = omega arith in
          ap (λ j. get_or rank (get_or order j 0) 0) at ∙ ap (λ q. get_or rank q 0) last ∙ here ∙ ap (λ j. j + 1) (sym at))
          (cases_lt i s.count);
      placed = λ q h.
          ⊎_elim
          (λ (e : q ≡ p).
          let at : get_or rank q 0 - 1 ≡ s.count = omega (arith, ap (λ i. get_or rank i 0) e, here) in
          ap (λ j. get_or order j 0) at ∙ last ∙ sym e)
          (λ (ne : q ≡ p → ⊥).
          let seen : IsSeen s q = omega (arith, h, there q ne) in
          ap (λ j. get_or order (j - 1) 0) (there q ne) ∙ before (get_or s.rank q 0 - 1) (omega (arith, seen, s.roll.below q)) ∙ s.roll.placed q seen)
          (cases_eq q p);
      rank_long = length-set s.rank p (s.count + 1) ∙ s.roll.rank_long;
      via_long = length-set s.via p c ∙ s.roll.via_long;
      order_long = length-set s.order s.count p ∙ s.roll.order_long;
    }

module _ (g : List Arc) (f : List ℕ) (F : ℕ → Type 0) where
  pub more_none : (s : Seen) → More g f F s s
  more_none s = record {
    kept = λ p h. (refl, refl);
    new = λ p z h. absurd (omega (arith, z, h));
    later = λ p z h. absurd (omega (arith, z, h));
    rises = omega arith;
  }

  -- what is seen stays seen
  pub stays : (s t : Seen) → More g f F s t → (p : ℕ) → IsSeen s p → IsSeen t p
  stays s t more p h = omega (arith, h, (more.kept p h).0)

  -- a place that is seen later was seen before, or by an arc that allows it
  pub newly_seen : (F' : ℕ → Type 0) (s t : Seen) → ((c : ℕ) → F' c → F c) → More g f F' s t → (p : ℕ) → (IsSeen s p → Step g f F s.rank (get_or s.via p 0) p) → IsSeen t p → Step g f F t.rank (get_or t.via p 0) p
  newly_seen F' s t allows more p old h =
      ⊎_elim
      (λ (seen : IsSeen s p).
      let k = more.kept p seen in
      subst (λ d. Step g f F t.rank d p) (sym k.1) (step_kept g f F F s.rank t.rank (get_or s.via p 0) p (λ x. x) (λ i l. (more.kept i l).0) seen (old seen)))
      (λ (low : get_or s.rank p 0 ≤ 0). step_kept g f F' F t.rank t.rank (get_or t.via p 0) p (allows _) (λ i l. refl) h (more.new p (omega arith) h))
      (cases_lt 0 (get_or s.rank p 0))

  pub more_more : (F' : ℕ → Type 0) (s t u : Seen) → ((c : ℕ) → F' c → F c) → More g f F s t → More g f F' t u → More g f F s u
  more_more F' s t u allows m n = record {
    kept = λ p h.
        let k = m.kept p h in
        let l = n.kept p (stays s t m p h) in
        (l.0 ∙ k.0, l.1 ∙ k.1);
    new = λ p z. newly_seen F' t u allows n p (m.new p z);
    later = λ p z h.
        ⊎_elim
        (λ (seen : IsSeen t p). omega (arith, m.later p z seen, (n.kept p seen).0))
        (λ (low : get_or t.rank p 0 ≤ 0). omega (arith, m.rises, n.later p (omega arith) h))
        (cases_lt 0 (get_or t.rank p 0));
    rises = omega (arith, m.rises, n.rises);
  }

  module _ (s t : Seen) (p c : ℕ) (noted : Noted s t p c) (is : c < length g) where
    -- p was seen by a step along c, from a place that is seen
    by_step : (from : ℕ) → IsSeen s from → ((q : ℕ) → q ≡ p → IsSeen t from → get_or t.rank from 0 < get_or t.rank q 0 → Forth g F t.rank c q ⊎ Back g f t.rank c q) → More g f F s t
    by_step from seen way = record {
      kept = noted.kept;
      new = λ q z h.
          let n = noted.new q z h in
          let same = (noted.kept from seen).0 in
          subst (λ d. Step g f F t.rank d q) (sym n.1) (record { is = is; way = way q n.0 (omega (arith, seen, same)) (omega (arith, same, noted.later q z h, s.roll.below from)) });
      later = noted.later;
      rises = noted.rises;
    }

    -- by an arc from a place that is seen to p
    pub more_forth : (arc g c).to ≡ p → F c → IsSeen s (arc g c).from → More g f F s t
    more_forth at free from_seen =
        by_step (arc g c).from from_seen (λ q e seen lower. inl (record { at = at ∙ sym e; free = free; seen = seen; lower = lower }))

    -- back along an arc from p to a place that is seen
    pub more_back : (arc g c).from ≡ p → 0 < get_or f c 0 → IsSeen s (arc g c).to → More g f F s t
    more_back at carries to_seen =
        by_step (arc g c).to to_seen (λ q e seen lower. inr (record { at = at ∙ sym e; carries = carries; seen = seen; lower = lower }))

  -- the tree with the new places
  pub tree_more : (F' : ℕ → Type 0) (root : ℕ) (s t : Seen) → ((c : ℕ) → F' c → F c) → Tree g f F root s.rank s.via → More g f F' s t → Tree g f F root t.rank t.via
  tree_more F' root s t allows tree more = record {
    root_seen = omega (arith, tree.root_seen, (more.kept root tree.root_seen).0);
    step = λ p ne. newly_seen F' s t allows more p (tree.step p ne);
    few = λ p. omega (arith, t.roll.below p, t.roll.counted);
    long = t.roll.rank_long;
  }

-- what stands on the roll is seen
pub on_roll : (s : Seen) (i : ℕ) → i < s.count → IsSeen s (get_or s.order i 0)
on_roll s i l = omega (arith, s.roll.listed i l)

-- what is known of the first places of the roll
module _ (P : ℕ → Type 0) where
  pub first_none : (s : Seen) → OfFirst 0 s P
  first_none s p h low = absurd (omega (arith, h, low))

  pub first_all : (s : Seen) (n : ℕ) → s.count ≤ n → OfFirst n s P → (p : ℕ) → IsSeen s p → P p
  first_all s n all first p h = first p h (omega (arith, s.roll.below p))

  pub first_more : (s : Seen) (n : ℕ) → OfFirst n s P → P (get_or s.order n 0) → OfFirst (n + 1) s P
  first_more s n first here p h low =
      ⊎_elim
      (λ (m : n < get_or s.rank p 0).
      let at : get_or s.rank p 0 - 1 ≡ n = omega arith in
      subst P (ap (λ i. get_or s.order i 0) (sym at) ∙ s.roll.placed p h) here)
      (λ (l : get_or s.rank p 0 ≤ n). first p h l)
      (cases_lt n (get_or s.rank p 0))

  -- they stay the first
  pub first_kept : (g : List Arc) (f : List ℕ) (F Q : ℕ → Type 0) (s t : Seen) (n : ℕ) → n ≤ s.count → More g f F s t → ((p : ℕ) → Q p → P p) → OfFirst n s Q → OfFirst n t P
  first_kept g f F Q s t n few more still first p h low =
      ⊎_elim
      (λ (seen : IsSeen s p). still p (first p seen (omega (arith, low, (more.kept p seen).0))))
      (λ (z : get_or s.rank p 0 ≤ 0). absurd (omega (arith, few, low, more.later p (omega arith) h)))
      (cases_lt 0 (get_or s.rank p 0))
