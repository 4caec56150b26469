-- What loading asks of a run: the numbers that its plan and its progress store are within the limits (number 50).
use Rattle.run_loading.specs.Inner.Loading as parts
use Rattle.run.specs.declared.Run.{Run}

-- the plan, and where the behaviour stands, within the limits
abbrev pub Loads : Run → Type 0
Loads run = parts.Loads run.plan run.progress
