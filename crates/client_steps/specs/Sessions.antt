-- The session of a run.
use Rattle.std.specs.Prelude.{List, None, Some}
use Rattle.fml_types.specs.declared.manifest.Manifest.{Manifest}
use Rattle.app_context.specs.declared.context.Context.{Context}
use Rattle.pref_bindings.specs.declared.bindings.Binding.{Binding}
use Rattle.client_steps.specs.declared.session.Session.{Session}
use Rattle.client_steps.specs.declared.session.SessionChange.{SessionChange}
use Rattle.client_steps.specs.declared.session.SessionChange.TheVariants as changes

-- the session of a run that begins
abbrev pub no_session : Session
no_session = record { manifest = None; context = None; bindings = None }

-- the session in which this manifest was set last
abbrev pub with_manifest : Session → Manifest → Session
with_manifest session manifest = record session { manifest = Some manifest }

-- the session in which this context was read last
abbrev pub with_context : Session → Context → Session
with_context session context = record session { context = Some context }

-- the session in which these bindings were read last
abbrev pub with_bindings : Session → List Binding → Session
with_bindings session bindings = record session { bindings = Some bindings }

-- the session after a change
abbrev pub changed_by : Session → SessionChange → Session
changed_by session changes.Stays = session
changed_by session (changes.Manifest manifest) = with_manifest session manifest
changed_by session (changes.Context context) = with_context session context
changed_by session (changes.Bindings bindings) = with_bindings session bindings
