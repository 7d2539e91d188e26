-- Two right answers to a call agree: the same refusal, the same telling, or the same rate at costs that are at most each other. Assumes nothing.
use Rattle.std.proofs.Common.{◌≡◌, ℕ, ◌≤◌, Bool, true, not, ◌||◌, eqb, List, [], ◌∷◌, sym, refl, ◌∙◌, subst, inl, inr, arith}
use Rattle.std.proofs.lemmas.Bool.{and_parts, or_cases, not-true, eqb-true, eqb-false}
use Rattle.network.specs.Checks.{Check, First, Passed}
use Rattle.network.specs.Network.{Network}
use Rattle.network.specs.Routes.{times}
use Rattle.network.proofs.Lists.{every}
use Rattle.scale.specs.Measure.{Measure, AtMost}
use Rattle.promise.specs.declared.Mode.{Mode}
use Rattle.promise.specs.Ledger.{Feed, Ledger}
use Rattle.promise.specs.Promise as promise
use Rattle.promise.specs.Promise.{Plan, safest, widest, book, Tell, Call, plan, act, tell, Answer, refused, pair, done, told, checks, act_checks, tell_checks, Safest, Widest, Planned, Used, Told, Right}
use Rattle.worked_lines.specs.Lines.{Agree}

first_only : (k j : ℕ) (ps : List Check) → First k ps → First j ps → k ≡ j
first_only k j [] f g = absurd f
first_only k j (p ∷ ps) (inl f) (inl g) = f.0 ∙ sym g.0
first_only k j (p ∷ ps) (inl f) (inr g) = absurd (g.0 f.1)
first_only k j (p ∷ ps) (inr f) (inl g) = absurd (f.0 g.1)
first_only k j (p ∷ ps) (inr f) (inr g) = first_only k j ps f.1 g.1

passed_first : (k : ℕ) (ps : List Check) → Passed ps → First k ps → ⊥
passed_first k [] h f = f
passed_first k (p ∷ ps) h (inl f) = h.0 f.1
passed_first k (p ∷ ps) h (inr f) = passed_first k ps h.1 f.1

-- each feed of that number has so many routes on the circuit
abbrev agreed? : ℕ → ℕ → ℕ → List Feed → Bool
agreed? k c t fs = every (λ (f : Feed). not (eqb f.number k) || eqb t (times c (f.first ∷ f.second ∷ []))) fs

abbrev once? : Ledger → Tell → ℕ → Bool
once? l (promise.Tell.left c) t = true
once? l (promise.Tell.opens c) t = true
once? l (promise.Tell.uses k c) t = agreed? k c t l.feeds

-- the test under which no other answer is right: a telling of a feed's routes needs that one feed has the number
abbrev pub one? : {V : Type 0} → Ledger → Call V → Answer V → Bool
one? l (plan x p q) y = true
one? l (act x) y = true
one? l (tell x) (refused k) = true
one? l (tell x) (pair r f g c) = true
one? l (tell x) done = true
one? l (tell x) (told t) = once? l x t

module _ {V : Type 0} (s : Measure V) (n : Network) (l : Ledger) where
  module _ (a b : ℕ) (m : Mode) where
    cost_only : (r q : ℕ) (f g u v : List ℕ) (c d : V) → r ≡ q → Safest s n l a b m r f g c → Safest s n l a b m q u v d → AtMost s c d
    cost_only r q f g u v c d e x y =
        let z : Safest s n l a b m r u v d = subst (λ k. Safest s n l a b m k u v d) (sym e) y in
        subst (λ w. AtMost s c w) (sym z.shares) (x.least (u ∷ v ∷ []) z.choice)

    rate_most : (limit : V) (r q : ℕ) (f g u v : List ℕ) (c d : V) → Widest s n l a b m limit r f g c → Widest s n l a b m limit q u v d → q ≤ r
    rate_most limit r q f g u v c d x y =
        x.largest q y.most (u ∷ v ∷ []) y.safest_pair.choice (subst (λ w. AtMost s w limit) y.safest_pair.shares y.within)

  planned_only : (x : Plan V) (r q : ℕ) (f g u v : List ℕ) (c d : V) → Planned s n l x r f g c → Planned s n l x q u v d → (r ≡ q) × AtMost s c d × AtMost s d c
  planned_only (safest a b k m) r q f g u v c d x y = (x.0 ∙ sym y.0, cost_only a b m k k f g u v c d refl x.1 y.1, cost_only a b m k k u v f g d c refl y.1 x.1)
  planned_only (widest a b m limit) r q f g u v c d x y =
      let e : r ≡ q = omega (arith, rate_most a b m limit r q f g u v c d x y, rate_most a b m limit q r u v f g d c y x) in
      (e, cost_only a b m r q f g u v c d e x.safest_pair y.safest_pair, cost_only a b m q r u v f g d c (sym e) y.safest_pair x.safest_pair)
  planned_only (book i a b k m limit) r q f g u v c d x y = (x.0 ∙ sym y.0, cost_only a b m k k f g u v c d refl x.1 y.1, cost_only a b m k k u v f g d c refl y.1 x.1)

  pub agree_plan : (x : Plan V) (p q : ℕ) (y z : Answer V) → Right s n l (plan x p q) y → Right s n l (plan x p q) z → Agree s y z
  agree_plan x p q (refused k) (refused j) h i = first_only k j (checks s n l (plan x p q)) h i
  agree_plan x p q (refused k) (pair r f g c) h i = passed_first k (checks s n l (plan x p q)) i.0 h
  agree_plan x p q (refused k) done h i = i
  agree_plan x p q (refused k) (told t) h i = i
  agree_plan x p q (pair r f g c) (refused k) h i = passed_first k (checks s n l (plan x p q)) h.0 i
  agree_plan x p q (pair r f g c) (pair o u v d) h i = planned_only x r o f g u v c d h.1 i.1
  agree_plan x p q (pair r f g c) done h i = i
  agree_plan x p q (pair r f g c) (told t) h i = i
  agree_plan x p q done z h i = absurd h
  agree_plan x p q (told t) z h i = absurd h

  agree_act : (x : promise.Act) (y z : Answer V) → Right s n l (act x) y → Right s n l (act x) z → Agree s y z
  agree_act x (refused k) (refused j) h i = first_only k j (act_checks s n l x) h i
  agree_act x (refused k) (pair r f g c) h i = i
  agree_act x (refused k) done h i = passed_first k (act_checks s n l x) i h
  agree_act x (refused k) (told t) h i = i
  agree_act x (pair r f g c) z h i = absurd h
  agree_act x done (refused k) h i = passed_first k (act_checks s n l x) h i
  agree_act x done (pair r f g c) h i = i
  agree_act x done done h i = tt
  agree_act x done (told t) h i = i
  agree_act x (told t) z h i = absurd h

  used_only : (k c t u : ℕ) (fs : List Feed) → agreed? k c t fs ≡ true → Used s n l k c u fs → t ≡ u
  used_only k c t u [] h i = absurd i
  used_only k c t u (f ∷ fs) h i =
      let here = not (eqb f.number k) || eqb t (times c (f.first ∷ f.second ∷ [])) in
      let p = and_parts here (agreed? k c t fs) h in
      elim i [
        | inl e ↦ elim (or_cases (not (eqb f.number k)) (eqb t (times c (f.first ∷ f.second ∷ []))) p.0) [
          | inl x ↦ absurd (eqb-false f.number k (not-true (eqb f.number k) x) e.0)
          | inr x ↦ eqb-true t (times c (f.first ∷ f.second ∷ [])) x ∙ sym e.1
        ]
        | inr j ↦ used_only k c t u fs p.1 j
      ]

  told_only : (x : Tell) (t u : ℕ) → once? l x t ≡ true → Told s n l x t → Told s n l x u → t ≡ u
  told_only (promise.Tell.left c) t u e h i = omega (arith, h, i)
  told_only (promise.Tell.opens c) t u e (inl h) (inl i) = h.0 ∙ sym i.0
  told_only (promise.Tell.opens c) t u e (inl h) (inr i) = absurd (i.1 h.1)
  told_only (promise.Tell.opens c) t u e (inr h) (inl i) = absurd (h.1 i.1)
  told_only (promise.Tell.opens c) t u e (inr h) (inr i) = h.0 ∙ sym i.0
  told_only (promise.Tell.uses k c) t u e h i = used_only k c t u l.feeds e i

  agree_tell : (x : Tell) (y z : Answer V) → one? l (tell x) y ≡ true → Right s n l (tell x) y → Right s n l (tell x) z → Agree s y z
  agree_tell x (refused k) (refused j) e h i = first_only k j (tell_checks s n l x) h i
  agree_tell x (refused k) (pair r f g c) e h i = i
  agree_tell x (refused k) done e h i = i
  agree_tell x (refused k) (told t) e h i = passed_first k (tell_checks s n l x) i.0 h
  agree_tell x (pair r f g c) z e h i = absurd h
  agree_tell x done z e h i = absurd h
  agree_tell x (told t) (refused k) e h i = passed_first k (tell_checks s n l x) h.0 i
  agree_tell x (told t) (pair r f g c) e h i = i
  agree_tell x (told t) done e h i = i
  agree_tell x (told t) (told u) e h i = told_only x t u e h.1 i.1

  pub agree : (call : Call V) (y : Answer V) → one? l call y ≡ true → Right s n l call y → (z : Answer V) → Right s n l call z → Agree s y z
  agree (plan x p q) y e h z i = agree_plan x p q y z h i
  agree (act x) y e h z i = agree_act x y z h i
  agree (tell x) y e h z i = agree_tell x y z e h i
