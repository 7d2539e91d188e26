use Rattle.std.proofs.Common.{rules, length, drop, subst, arith}
use Rattle.std.specs.List.{between}
use Rattle.std.proofs.lemmas.List.{take_rest}
use Rattle.orders.specs.Lines.{Blank, Inner, Off}
use Rattle.orders.proofs.Splitting.{run_off, no_words, next_is}
use Rattle.orders.proofs.reading.next_word.Goals as goal

pub returns-in-0 : goal.returns-in-0
returns-in-0 c =
    let line = c.args.line.now in
    let n = c.run_len.result in
    let from = between n (length line) line in
    no_words line from n c.run_len.ensures.within (λ k h. let p = c.run_len.ensures.run k h in search rules) (run_off Blank line n (λ h b. let p = c.run_len.ensures.stops h in search rules)) (take_rest line n)
    (subst (λ m. Off Inner (drop m from)) c.in-0.is (run_off Inner from c.run_len-2.result (λ h b. let p = c.run_len-2.ensures.stops h in search rules)))

pub returns-in_default : goal.returns-in_default
returns-in_default c =
    let line = c.args.line.now in
    let n = c.run_len.result in
    let from = between n (length line) line in
    rw (c.split_at.ensures.front, c.split_at.ensures.back)
    (next_is line from n c.run_len-2.result c.run_len.ensures.within (λ k h. let p = c.run_len.ensures.run k h in search rules) (take_rest line n) c.run_len-2.ensures.within (omega arith) (λ k h. let p = c.run_len-2.ensures.run k h in search rules) (λ h b. let p = c.run_len-2.ensures.stops h in search rules))
