-- Payloads as parts of bytes.
use Rattle.std.proofs.Common.{◌≡◌, ℕ, ◌+◌, ◌≤◌, List, [], ◌∷◌, ◌++◌, length, take, drop, refl, sym, ◌∙◌, ap, arith, length-append, length-drop}
use Rattle.std.proofs.lemmas.List.{drop-drop, drop_at, map-append, take_at}
use Rattle.gate_journal.specs.declared.payloads.Part.{Part}
use Rattle.gate_journal.specs.Parts.{payload_at, payloads_in, AreWithin, IsWithin}
use Rattle.gate_journal.specs.Records.{framed}
use Rattle.gate_journal.proofs.Appending.{length-framed}

-- one part more
pub payloads_in-push : (bytes : List ℕ) (parts : List Part) (part : Part) (payload : List ℕ) → payload_at bytes part ≡ payload → payloads_in bytes (parts ++ part ∷ []) ≡ payloads_in bytes parts ++ payload ∷ []
payloads_in-push bytes parts part payload is = map-append (payload_at bytes) parts (part ∷ []) ∙ ap (λ (p : List ℕ). payloads_in bytes parts ++ p ∷ []) is

pub AreWithin-push : (bytes : List ℕ) (parts : List Part) (part : Part) → AreWithin bytes parts → IsWithin bytes part → AreWithin bytes (parts ++ part ∷ [])
AreWithin-push bytes [] part within here = (here, tt)
AreWithin-push bytes (first ∷ parts) part within here = (within.0, AreWithin-push bytes parts part within.1 here)

-- a record at a place of the bytes, and what is behind it
module _ (bytes payload left behind : List ℕ) (place : ℕ) (at_place : drop place bytes ≡ left) (is : left ≡ 1 ∷ (framed payload ++ behind)) where
  behind_frame : drop (place + 5) bytes ≡ payload ++ behind
  unfolding framed
  behind_frame = sym (drop-drop 5 place bytes) ∙ ap (λ (l : List ℕ). drop 5 l) (at_place ∙ is)

  pub payload_is : take (length payload) (drop (place + 5) bytes) ≡ payload
  payload_is = ap (λ (l : List ℕ). take (length payload) l) behind_frame ∙ take_at payload behind (length payload) refl

  pub payload_within : place + 5 + length payload ≤ length bytes
  payload_within = omega (arith, ap length (at_place ∙ is), length-drop place bytes, length-append (framed payload) behind, length-framed payload)

  pub behind_is : drop (place + length payload + 5) bytes ≡ behind
  behind_is = ap (λ (n : ℕ). drop n bytes) (omega arith) ∙ sym (drop-drop (length payload) (place + 5) bytes) ∙ ap (λ (l : List ℕ). drop (length payload) l) behind_frame
      ∙ drop_at payload behind (length payload) refl
