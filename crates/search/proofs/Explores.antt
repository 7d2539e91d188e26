-- A search, place by place and gate by gate. Assumes nothing.
use Rattle.std.proofs.Common.{◌≡◌, ℕ, ◌+◌, ◌<◌, ◌≤◌, List, length, get_or, refl, inl, inr, ⊎_elim, arith}
use Rattle.std.proofs.lemmas.Bool.{cases_lt}
use Rattle.search.specs.declared.Arc.{Arc}
use Rattle.search.specs.declared.spread.Seen.{Seen}
use Rattle.search.specs.Graph.{arc, Must, Refused, Proper}
use Rattle.search.specs.Flows.{Carries, Sound}
use Rattle.search.specs.Trees.{Never, Free, Tree}
use Rattle.search.specs.Rolls.{IsSeen, Noted, More, Unused, SpentForth, SpentBack, Passed, Leaves, OfFirst}
use Rattle.search.proofs.Rolled.{tree_new, tree_more, stays, more_forth, first_none, first_all, first_more, first_kept}
use Rattle.search.proofs.Stuck.{brought, must, no_route}

-- the first `done` places on the roll brought all that they can back
pub record Begun (g : List Arc) (f : List ℕ) (F : ℕ → Type 0) (root : ℕ) (s : Seen) (done : ℕ) : Type 0 where
  pub tree : Tree g f F root s.rank s.via
  pub back : OfFirst done s (SpentBack g f s)
  pub done_low : done ≤ s.count

module _ (g : List Arc) (f : List ℕ) where
  module _ (F : ℕ → Type 0) (root : ℕ) where
    pub begun_new : (s : Seen) → s.count ≡ 1 → IsSeen s root → ((p : ℕ) → IsSeen s p → p ≡ root) → Begun g f F root s 0
    begun_new s one seen only =
        record { tree = tree_new s root one seen only g f F; back = first_none _ s; done_low = omega arith }

  -- what holds of the first places, with the next one after a search from it
  next_first : (F : ℕ → Type 0) (P Q : ℕ → Type 0) (s t : Seen) (done : ℕ) → done < s.count → More g f F s t → ((p : ℕ) → Q p → P p) → OfFirst done s Q → P (get_or s.order done 0) → OfFirst (done + 1) t P
  next_first F P Q s t done l more still first here =
      first_kept P g f F P s t (done + 1) (omega arith) more (λ p h. h) (first_more P s done (λ p h low. still p (first p h low)) here)

  module _ (F F' : ℕ → Type 0) (root : ℕ) (s t : Seen) (allows : (c : ℕ) → F' c → F c) (more : More g f F' s t) where
    back_kept : (p : ℕ) → SpentBack g f s p → SpentBack g f t p
    back_kept p h c l at pos = stays g f F' s t more (arc g c).from (h c l at pos)

    pub begun_scan : (done : ℕ) → Begun g f F root s done → done < s.count → SpentBack g f t (get_or s.order done 0) → Begun g f F root t (done + 1)
    begun_scan done old l here = record {
      tree = tree_more g f F F' root s t allows old.tree more;
      back = next_first F' (SpentBack g f t) (SpentBack g f s) s t done l more back_kept old.back here;
      done_low = omega (arith, more.rises);
    }

    -- a place more on the roll
    pub begun_more : (done : ℕ) → Begun g f F root s done → Begun g f F root t done
    begun_more done old = record {
      tree = tree_more g f F F' root s t allows old.tree more;
      back = first_kept (SpentBack g f t) g f F' (SpentBack g f s) s t done old.done_low more back_kept old.back;
      done_low = omega (arith, old.done_low, more.rises);
    }

  module _ (proper : Proper g 128) (wide : length f ≡ 384) where
    long : length g ≤ length f
    long = omega (arith, proper.few_arcs, wide)

    -- while the flow's source is not seen, there is a place to go on from
    pub to_do : (a b done : ℕ) (s : Seen) → ((k : ℕ) × Carries g f (k + 1) a b) → Begun g f Never b s done → get_or s.rank a 0 ≡ 0 → done < s.count
    to_do a b done s carried old new =
        ⊎_elim
        (λ l. l)
        (λ (all : s.count ≤ done). absurd (brought g s f (carried.0 + 1) a b carried.1 long (first_all _ s done all old.back) (omega arith) new old.tree.root_seen))
        (cases_lt done s.count)

  -- the first `done` places were searched from, and through the first `held` there is no gate
  pub record Explored (a b : ℕ) (s : Seen) (done held : ℕ) : Type 0 where
    pub begun : Begun g f (Free g f a b) a s done
    pub forth : OfFirst done s (SpentForth g f s)
    pub passed : OfFirst held s (Passed g s)
    pub held_low : held ≤ s.count

  module _ (a b : ℕ) where
    unused_free : (c : ℕ) → Unused g f c → Free g f a b c
    unused_free c u = record { usable = u.usable; room = inl u.idle }

    module _ (s t : Seen) (F : ℕ → Type 0) (more : More g f F s t) where
      forth_kept : (p : ℕ) → SpentForth g f s p → SpentForth g f t p
      forth_kept p h c l at u = stays g f F s t more (arc g c).to (h c l at u)

      passed_kept : (p : ℕ) → Passed g s p → Passed g t p
      passed_kept p h c l at u = stays g f F s t more (arc g c).to (h c l at u)

    pub explored_scan : (s t : Seen) (done held : ℕ) → Explored a b s done held → done < s.count → More g f (Unused g f) s t → SpentForth g f t (get_or s.order done 0) → SpentBack g f t (get_or s.order done 0) → Explored a b t (done + 1) held
    explored_scan s t done held old l more forth back = record {
      begun = begun_scan (Free g f a b) (Unused g f) a s t unused_free more done old.begun l back;
      forth = next_first (Unused g f) (SpentForth g f t) (SpentForth g f s) s t done l more (forth_kept s t _ more) old.forth forth;
      passed = first_kept (Passed g t) g f (Unused g f) (Passed g s) s t held old.held_low more (passed_kept s t _ more) old.passed;
      held_low = omega (arith, old.held_low, more.rises);
    }

    -- all places were searched from, and b is not seen
    module _ (proper : Proper g 128) (wide : length f ≡ 384) (sound : (k : ℕ) × (k ≤ 1) × Sound g f k a b) (s : Seen) (done held : ℕ) (old : Explored a b s done held) (all : s.count ≤ done) (new : get_or s.rank b 0 ≡ 0) where
      pub needed : (c : ℕ) → Leaves g s c → Must g a b c
      needed =
          must g s f sound.0 a b sound.2.carries (long proper wide) (first_all _ s done all old.begun.back) sound.1 old.begun.tree.root_seen new (first_all _ s done all old.forth)

      pub cut_off : ((c : ℕ) → Leaves g s c → ⊥) → Refused g a b
      cut_off none =
          inl (no_route g s f sound.0 a b sound.2.carries (long proper wide) (first_all _ s done all old.begun.back) sound.1 old.begun.tree.root_seen new (first_all _ s done all old.forth) none)

      module _ (t : Seen) (c start : ℕ) (gate : Leaves g s c) (both : 2 ≤ (arc g c).lanes) (noted : Noted s t (arc g c).to c) where
        two : (arc g c).lanes ≡ 2
        two = omega (arith, both, (proper.joins c gate.is).few)

        through : More g f (Free g f a b) s t
        through =
            more_forth g f (Free g f a b) s t (arc g c).to c noted gate.is refl (record { usable = gate.usable; room = inr (two, needed c gate) }) gate.seen

        pub explored_gate : start < s.count → OfFirst start s (Passed g s) → Explored a b t done start
        explored_gate l passed = record {
          begun = begun_more (Free g f a b) (Free g f a b) a s t (λ d h. h) through done old.begun;
          forth = first_kept (SpentForth g f t) g f _ (SpentForth g f s) s t done old.begun.done_low through (forth_kept s t _ through) old.forth;
          passed = first_kept (Passed g t) g f _ (Passed g s) s t start (omega arith) through (passed_kept s t _ through) passed;
          held_low = omega (arith, through.rises);
        }
