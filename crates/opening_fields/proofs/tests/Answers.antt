-- Test by test.
use mathlib.Core.Path.{◌≡◌, ap, ◌∙◌}
use mathlib.Core.Bool.{true}
use Rattle.suites.specs.Suite.{listed}
use Rattle.opening_fields.specs.Opening.{has_opening, opening_suite, opening_tests}
use Rattle.fields.proofs.Values.{found, missed}
use Rattle.opening_fields.proofs.tests.Goals as goal

pub returns-then-not-is_there : goal.returns-then-not-is_there
unfolding opening_tests
returns-then-not-is_there c =
    rw (missed c.is_there.ensures c.if-not-is_there.true)

pub returns-then-not-is_listed : goal.returns-then-not-is_listed
unfolding opening_tests
returns-then-not-is_listed c =
    let first : has_opening c.args.s.now ≡ true = found c.is_there.ensures c.if-not-is_there.false in
    let second : let s = c.args.s.now in c.is_listed.result ≡ listed (opening_suite s).cipher (opening_suite s).steps = c.is_listed.ensures ∙ ap (λ u. listed u.cipher u.steps) c.suite.ensures in
    rw (first, missed (second) c.if-not-is_listed.true)

pub returns : goal.returns
unfolding opening_tests
returns c =
    let first : has_opening c.args.s.now ≡ true = found c.is_there.ensures c.if-not-is_there.false in
    let second : let s = c.args.s.now in c.is_listed.result ≡ listed (opening_suite s).cipher (opening_suite s).steps = c.is_listed.ensures ∙ ap (λ u. listed u.cipher u.steps) c.suite.ensures in
    rw (first, found (second) c.if-not-is_listed.false)
