-- Its query's classes decide whether it may stand there. Assumes nothing.
use Prim.Native.Nat.{◌-◌}
use mathlib.Core.Path.{sym, ◌∙◌}
use borrow.Author.Rules.{rules}
use Rattle.store.specs.Store.{query_at}
use Rattle.store.specs.Checks.{flag_of}
use Rattle.store.proofs.Taking.{query_taken, not_named, past_all}
use Rattle.checks.proofs.once.take_entry.Goals as goal

pub returns-then-b-ge-LONGEST : goal.returns-then-b-ge-LONGEST
returns-then-b-ge-LONGEST c =
    let u = c.args.u.now in λ k. past_all (flag_of u.map.lo u.map.hi) k u.table (search rules) c.args.c c.args.b c.if-b-ge-LONGEST.true

pub returns-then-not-names : goal.returns-then-not-names
returns-then-not-names c =
    let u = c.args.u.now in λ k. not_named (flag_of u.map.lo u.map.hi) k u.table c.args.c c.args.b c.requires.0 (sym c.names.ensures ∙ c.if-not-names.true)

pub returns : goal.returns
returns c =
    let u = c.args.u.now in
    λ k. query_taken (flag_of u.map.lo u.map.hi) k u.table c.args.c c.args.b c.requires.0
    (record { classes = c.without_class.result; begun = (query_at u.table (c.args.b - 128)).begun }) c.requires.1 (search rules)
    (sym c.names.ensures ∙ c.if-not-names.false) c.without_class.ensures
