-- What a run knows of itself after the calls of a log: it is in limits and keeps the opening's plan, Ψ and slack; its word is
-- taken by what the log tells, up to a waiting or final state, within the limits of 44, and as far as it goes unless a loading has
-- failed, by the next path; and where it stands is where the engine's way over that word leads.
use Rattle.std.specs.Prelude.{◌≡◌, true, List, ◌++◌, map, ℕ, ◌≤◌, ◌<◌, length, get_or, Some}
use Rattle.std.proofs.Common.{sym, ap, ◌∙◌}
use Rattle.basis.specs.Lists.{Among}
use Rattle.time.specs.Time.{horizon}
use Rattle.time.specs.declared.Clock.{Clock}
use Rattle.plan.specs.Plan.{outcomes_of}
use Rattle.plan.specs.declared.Plan.{Plan}
use Rattle.automaton.specs.Next.{next_of}
use Rattle.automaton.specs.Rules.{MeetsAutomaton}
use Rattle.automaton.specs.declared.Next.{Next}
use Rattle.times_combined.specs.Word.{size, times}
use Rattle.times_combined.specs.Combined.{Ident, Graph, identity}
use Rattle.times_combined.proofs.Laws.Engine.{Trace, Run as Runs}
use Rattle.times_combined.specs.Paths.{word_of, Lawful}
use Rattle.times_combined.proofs.Laws.Instances.{Listing}
use Rattle.times.specs.Queues.{queue_of}
use Rattle.times.specs.declared.Told.{Told}
use Rattle.times.specs.declared.Instance.{Instance}
use Rattle.times.specs.declared.Progress.{Progress}
use Rattle.times_equal.proofs.Laws.Seen.{seen, Whole}
use Rattle.run_path.specs.Pathed.{ProgressIn}
use Rattle.run_window.specs.Window.{vacant}
use Rattle.run_limits.specs.Window.{entry_in_limits}
use Rattle.run.specs.Limits.{slack_in_limits, halt_in_limits}
use Rattle.run.specs.declared.Run.{Run}
use Rattle.run_checks.specs.declared.Stop.{Stop}
use Rattle.demands_log.specs.Log.{Id, id, Log, FailedIn}
use Rattle.demands_log.specs.Log as Log
use Rattle.demands_theory.specs.Nodes.{length_of}
use Rattle.demands_theory.specs.TheWord.{state_after, next_after, whole_of, Rests, Takes, Stuck}
use Rattle.demands_theory.specs.Loading.{PathBeyond, PathFull}
use Rattle.demands_theory.specs.Loading as Loading
use Rattle.demands_theory.proofs.Laws.OfPlan.{Long}

-- ---- pending instances

abbrev pub ident_of : Instance → Ident
ident_of x = identity x.position x.node

abbrev pub id_of : Instance → Id
id_of x = id x.position x.node

-- what is stored of an instance is what the log tells of it
abbrev pub ToldAs : Log → Id → Told → Type 0
ToldAs log x Told.Nothing = (o : ℕ) → Log.Told log x o → ⊥
ToldAs log x (Told.Outcome o) = Log.Told log x o

-- the queue of e, which has m outcomes, holds its instances from number n + 1 on, in order, each with what the log tells of it; the
-- report of a marker "is not queued"
pub record Queued (G : Graph) (log : Log) (m e n : ℕ) (q : List Instance) : Type 0 where
  pub past : List Ident
  pub count : length past ≡ n
  pub listing : Listing G e (past ++ map ident_of q)
  pub told : (x : Instance) → Among x q → 1 < m → ToldAs log (id_of x) x.told

-- ---- where the engine stands

pub record Stands (p : Plan) (available : ℕ → ℕ) (log : Log) (is : List ℕ) (g : Progress) : Type 0 where
  pub trace : Trace
  pub runs : Runs p.resources available trace (word_of p is)
  pub state : trace.state (size (word_of p is)) ≡ seen g
  pub queues : (e : ℕ) → Queued (whole_of p is) log (outcomes_of p e) e (times e (word_of p is)) (queue_of g e)
  pub place : g.state ≡ state_after p is
  pub position : g.position ≡ length_of is
  pub sized : Whole g
  pub within : ProgressIn p g
  pub taken : Takes p log is
  -- nothing is told of nodes that are not in the word
  pub known : (x : Id) (o : ℕ) → Log.Told log x o → x.position < length_of is

-- what follows the word is what its state does next
pub next_after_lem : {p : Plan} {available : ℕ → ℕ} {log : Log} {is : List ℕ} {g : Progress} → Stands p available log is g → {n : Next} → next_of p.automaton g.state ≡ n → next_after p is ≡ n
next_after_lem {p} s e = ap (next_of p.automaton) (sym s.place) ∙ e

-- ---- the opening's plan, Ψ and slack

pub record Accepted (p : Plan) (psi : Clock) (slack : ℕ) : Type 0 where
  pub lawful : Lawful p
  pub automaton : MeetsAutomaton p
  pub start : psi.0 ≤ horizon
  pub host : slack_in_limits slack ≡ true
  -- no "action or event with duration not above the slack" (33)
  pub long : Long p slack

-- ---- the run

pub record Good (p : Plan) (psi : Clock) (slack : ℕ) (available : ℕ → ℕ) (log : Log) (is : List ℕ) (run : Run) : Type 0 where
  pub same_plan : run.plan ≡ p
  pub same_psi : run.psi ≡ psi
  pub same_slack : run.slack ≡ slack
  pub stands : Stands p available log is run.progress
  pub rests : Rests p is
  pub within : Loading.Within p available is
  pub whole : (FailedIn log → ⊥) → Stuck p log is
  pub beyond : run.halt ≡ Some Stop.Beyond → PathBeyond p available log is
  pub full : run.halt ≡ Some Stop.Full → PathFull p available log is
  pub long : length run.window ≡ 512
  pub entries : (j : ℕ) → entry_in_limits p.activities p.sizes (get_or run.window j vacant) ≡ true
  pub halt : halt_in_limits run.halt ≡ true
