use Rattle.std.proofs.Common.{get_or, take, sym, ap, ◌∙◌, subst}
use Rattle.std.proofs.lemmas.List.{take_all, map_more}
use Rattle.tables.specs.declared.rows.Notice.{Notice}
use Rattle.tables.proofs.Marking.{Marked, marked_none, marked_more}
use Rattle.tables.proofs.Opening.{named, unnamed_from_unused, used_not_unnamed}
use Rattle.tables.proofs.rows.Tables.closed.Goals as goal

pub loop-notice-init : goal.loop-notice-init
loop-notice-init c = marked_none

pub loop-notice-preserved : goal.loop-notice-preserved
loop-notice-preserved c =
    let xs = c.deref-notice-items.result.now in
    let i = c.loop-notice.notice-index in
    let none : Notice = record { number = 0; circuit = 0 } in
    subst (Marked c.mark.new.marks) (sym (map_more (λ (x : Notice). x.circuit) xs i none c.loop-notice-test.true))
    (marked_more c.loop-notice.closed c.mark.new.marks (named (take i xs)) (get_or xs i none).circuit c.mark.ensures c.loop-notice.invariant)

pub returns : goal.returns
returns c =
    let xs = c.args.self.now.notices.items in
    let all = ap named (take_all c.loop-notice.notice-index c.deref-notice-items.result.now c.loop-notice-test.false ∙ c.deref-notice-items.ensures.value) in
    let marked : Marked c.loop-notice.closed (named xs) = subst (Marked c.loop-notice.closed) all c.loop-notice.invariant in
    record {
      no = λ k h e. unnamed_from_unused k xs (sym (marked k h) ∙ e);
      yes = λ k h e. used_not_unnamed k xs (sym (marked k h) ∙ e);
    }
