use Rattle.std.proofs.Common.{◌≡◌, ℕ, ◌<◌, ap, ◌∙◌, subst, arith, vec_len}
use Rattle.tables.specs.declared.rows.CircuitState.{CircuitState}
use Rattle.tables.specs.Standing.{feed_of, left_at, taken_by}
use Rattle.tables.proofs.Taking.{changed_none, changed_more}
use Rattle.tables.proofs.rows.Tables.change_left.Goals as goal

pub loop-number-init : goal.loop-number-init
loop-number-init g c = changed_none _ c.args.self.now

pub loop-number-preserved : goal.loop-number-preserved
loop-number-preserved g c =
    let old = c.args.self.now in
    let i = c.loop-number.number in
    let so = c.loop-number.invariant in
    let within : i < vec_len old.circuits = omega arith in
    let marked : i < 384 = omega (arith, old.few_circuits) in
    let left : c.circuit_mut-circuit.result.now.left ≡ left_at old i = ap (λ (s : CircuitState). s.left) c.circuit_mut-circuit.ensures.value ∙ so.after i (omega arith) in
    let taken : c.amount-taken.result ≡ taken_by (feed_of c.args.feed.now) i = c.amount-taken.ensures i (c.marks-first.ensures i marked) (c.marks-second.ensures i marked) in
    let rule = λ (k left : ℕ). goal.F-post g c.args.change (left_at old k) (taken_by (feed_of c.args.feed.now) k) left in
    changed_more rule old c.loop-number.self i (record { left = c.change-circuit.result }) within so
    (subst (λ x. goal.F-post g c.args.change x (taken_by (feed_of c.args.feed.now) i) c.change-circuit.result) left
    (subst (λ x. goal.F-post g c.args.change c.circuit_mut-circuit.result.now.left x c.change-circuit.result) taken c.change-circuit.ensures))

pub returns : goal.returns
returns g c =
    let so = c.loop-number.invariant in
    record { left = λ k h. so.before k (omega arith); rest = so.rest }
