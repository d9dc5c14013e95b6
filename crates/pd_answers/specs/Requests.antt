-- Trusted base.
-- What can be asked of the tools: the requests that the code declares, with lists of bytes as the words that name their objects.
use Rattle.std.specs.Prelude.{ℕ, List}
use Rattle.pd_answers.specs.declared.request.Request.{Request as RequestOf}

abbrev pub Request : Type 0
Request = RequestOf (List ℕ)
