-- The law of preferences over chains.
use Rattle.session_run.proofs.Preferences.{are_the_users, held_are_set, holders_take_part, user_map_is_kept}
use Rattle.session_run.proofs.laws.pref_chain.Goals as goal

pub returns-clause-user_map : goal.returns-clause-user_map
returns-clause-user_map c l r s t links keeps chain none ends = user_map_is_kept l r s t links keeps chain ends none

pub returns-clause-held : goal.returns-clause-held
returns-clause-held c l r s t links keeps chain none ends = held_are_set l r s t links keeps chain ends none

pub returns-clause-holders : goal.returns-clause-holders
returns-clause-holders c l r s t links keeps chain ends = holders_take_part l r s t links keeps chain ends

pub returns-clause-users : goal.returns-clause-users
returns-clause-users c l r s t links keeps chain none ends alone = are_the_users l r s t links keeps chain ends none alone
