use Rattle.std.specs.Prelude.{◌≡◌, map}
use Rattle.tabled_script.proofs.invocation.unread.Given as goal
use Rattle.tabled_script.specs.Arguments.{named_files}
use Rattle.tabled_script.specs.Requests.{named_source, unread_files}

abbrev pub invariant-loop-kind : goal.invariant-loop-kind
invariant-loop-kind l = map named_source l.sources.items ≡ unread_files l.fn.dialect (named_files l.yielded)
