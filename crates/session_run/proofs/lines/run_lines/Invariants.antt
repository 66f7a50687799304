-- After the first lines: the store holds their state, and their answers are said.
use Rattle.std.proofs.Common.{◌≡◌, ◌≢◌, ◌+◌, ℕ, ◌≤◌, ◌<◌, List, ◌++◌, map, take}
use Rattle.host_model.specs.declared.side.Side.TheVariants.{Left, Right}
use Rattle.host_model.specs.Hosts.{MeetsAll}
use Rattle.client_core.specs.Clients.{state_of, end_of, IsOpenOn, HasGateOn}
use Rattle.client_steps.specs.Settings.{setting}
use Rattle.client_words.specs.Commands.{bytes_at}
use Rattle.session_run.specs.Steps.{run_of, begun, run_at, after, out}
use Rattle.session_run.specs.Files.{LinesAsked}
use Rattle.session_run.specs.Moments.{AfterPrefix}
use Rattle.session_run.specs.Places.{all_places, all_bytes}
use Rattle.session_run.specs.Writes.{IsBelowMark}
use Rattle.session_run.proofs.Starting.{begin}
use Rattle.session_run.proofs.lines.run_lines.Given as goal

abbrev pub invariant-loop-span : goal.invariant-loop-span
invariant-loop-span g l =
    let h = g.H.Host in
    let f = g.F.Shelf in
    let at = setting f l.fn.shelf l.now in
    let lines = map (bytes_at l.script) l.spans in
    let s = state_of l.fn.client in
    let i = l.span-index in
    record {
      holds : h.tells → IsOpenOn h l.client l.host;
      files : f.tells → (name : List ℕ) → f.file l.shelf name ≡ f.file l.fn.shelf name;
      asked : LinesAsked f l.fn.shelf l.shelf (take i lines);
      state : f.tells → run_of l.client ≡ run_at at s lines i;
      said : f.tells → h.tells → h.said l.host ≡ h.said l.fn.host ++ out at s lines i;
      gate : h.tells → HasGateOn h l.fn.client l.fn.host → HasGateOn h l.client l.host;
      gate_made : f.tells → h.tells → (k : ℕ) → k < i → after at s lines k ≢ after at s lines (k + 1) → HasGateOn h l.client l.host;
      any_moment : f.tells → h.tells → HasGateOn h l.fn.client l.fn.host → MeetsAll h l.fn.host l.host (AfterPrefix (begin at s (end_of l.fn.client) lines (h.said l.fn.host) (h.written l.fn.host)));
      place : f.tells → end_of l.client ≡ all_places at (end_of l.fn.client) (begun s) (take i lines);
      cost : f.tells → h.tells → h.written l.host ≡ h.written l.fn.host + all_bytes at (end_of l.fn.client) (begun s) (take i lines);
      below : h.tells → MeetsAll h l.fn.host l.host (IsBelowMark h l.fn.host);
      below_now : h.tells → (left right : List ℕ) → h.images l.host Left left → h.images l.host Right right → IsBelowMark h l.fn.host left right (h.said l.host);
      shelf_faults : f.faults l.shelf ≡ f.faults l.fn.shelf;
      disk_faults : h.disk_faults l.host ≡ h.disk_faults l.fn.host;
      say_faults : h.say_faults l.host ≡ h.say_faults l.fn.host;
    }
