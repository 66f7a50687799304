-- The texts of a value that tokens spell are UTF-8.
use Rattle.std.proofs.Common.{ℕ, zero, suc, List, [], ◌∷◌, length, Option, Some, None, IsUtf8}
use Rattle.std.specs.Prelude.{⊤, IfSome, option_and_then}
use Rattle.json.specs.Token as token
use Rattle.json.specs.Token.{Token}
use Rattle.json.specs.Json.{Json, null, boolean, number, string, array, object, Items, no_items, item, Members, no_members, member, Parse, parse_map, after_end_array, read_key, items_step, members_step, items, members, value_with, value, if_last}
use Rattle.json_tree.proofs.Lexemes.{HaveTexts}

abbrev mutual
  pub HasTexts : Json → Type 0
  HasTexts null = ⊤
  HasTexts (boolean b) = ⊤
  HasTexts (number s) = ⊤
  HasTexts (string s) = IsUtf8 s
  HasTexts (array js) = ItemsHaveTexts js
  HasTexts (object ms) = MembersHaveTexts ms

  pub ItemsHaveTexts : Items → Type 0
  ItemsHaveTexts no_items = ⊤
  ItemsHaveTexts (item j js) = HasTexts j × ItemsHaveTexts js

  pub MembersHaveTexts : Members → Type 0
  MembersHaveTexts no_members = ⊤
  MembersHaveTexts (member k j ms) = IsUtf8 k × HasTexts j × MembersHaveTexts ms

-- what is read, and the tokens that follow it
abbrev Reads : {A : Type 0} → (A → Type 0) → Option (A × List Token) → Type 0
Reads P read = IfSome read (λ p. P p.0 × HaveTexts p.1)

abbrev Keeps : {A : Type 0} → (A → Type 0) → Parse A → Type 0
Keeps P parse = (ts : List Token) → HaveTexts ts → Reads P (parse ts)

mapped : {A B : Type 0} (P : A → Type 0) (Q : B → Type 0) (f : A → B) → ((a : A) → P a → Q (f a)) → (read : Option (A × List Token)) → Reads P read → Reads Q (parse_map f read)
mapped P Q f keeps None h = tt
mapped P Q f keeps (Some p) h = (keeps p.0 h.0, h.1)

bound : {A B : Type 0} (P : A → Type 0) (Q : B → Type 0) (f : A × List Token → Option (B × List Token)) → ((p : A × List Token) → P p.0 → HaveTexts p.1 → Reads Q (f p)) → (read : Option (A × List Token)) → Reads P read → Reads Q (option_and_then f read)
bound P Q f keeps None h = tt
bound P Q f keeps (Some p) h = keeps p h.0 h.1

after_end_texts : (ts : List Token) → HaveTexts ts → IfSome (after_end_array ts) HaveTexts
after_end_texts [] h = tt
after_end_texts (token.begin_object ∷ ts) h = tt
after_end_texts (token.end_object ∷ ts) h = tt
after_end_texts (token.begin_array ∷ ts) h = tt
after_end_texts (token.end_array ∷ ts) h = h.1
after_end_texts (token.key s ∷ ts) h = tt
after_end_texts (token.string s ∷ ts) h = tt
after_end_texts (token.number s ∷ ts) h = tt
after_end_texts (token.boolean b ∷ ts) h = tt
after_end_texts (token.null ∷ ts) h = tt
after_end_texts (token.bad ∷ ts) h = tt

abbrev IsKey : Option (List ℕ) → Type 0
IsKey k = IfSome k IsUtf8

key_texts : (ts : List Token) → HaveTexts ts → Reads IsKey (read_key ts)
key_texts [] h = tt
key_texts (token.begin_object ∷ ts) h = tt
key_texts (token.end_object ∷ ts) h = (tt, h.1)
key_texts (token.begin_array ∷ ts) h = tt
key_texts (token.end_array ∷ ts) h = tt
key_texts (token.key s ∷ ts) h = (h.0, h.1)
key_texts (token.string s ∷ ts) h = tt
key_texts (token.number s ∷ ts) h = tt
key_texts (token.boolean b ∷ ts) h = tt
key_texts (token.null ∷ ts) h = tt
key_texts (token.bad ∷ ts) h = tt

module _ (one : Parse Json) (keeps : Keeps HasTexts one) where
  items_step_texts : (more : Parse Items) → Keeps ItemsHaveTexts more → (ts : List Token) (end : Option (List Token)) → HaveTexts ts → IfSome end HaveTexts → Reads ItemsHaveTexts (items_step one more ts end)
  items_step_texts more rest ts (Some left) h closed = (tt, closed)
  items_step_texts more rest ts None h closed =
      bound HasTexts ItemsHaveTexts _ (λ p here there. mapped ItemsHaveTexts ItemsHaveTexts (item p.0) (λ js all. (here, all)) (more p.1) (rest p.1 there)) (one ts) (keeps ts h)

  items_texts : (n : ℕ) → Keeps ItemsHaveTexts (items one n)
  unfolding items
  items_texts zero ts h = tt
  items_texts (suc n) ts h = items_step_texts (items one n) (items_texts n) ts (after_end_array ts) h (after_end_texts ts h)

  members_step_texts : (more : Parse Members) → Keeps MembersHaveTexts more → (k : Option (List ℕ)) (ts : List Token) → IsKey k → HaveTexts ts → Reads MembersHaveTexts (members_step one more k ts)
  members_step_texts more rest None ts key h = (tt, h)
  members_step_texts more rest (Some k) ts key h =
      bound HasTexts MembersHaveTexts _ (λ p here there. mapped MembersHaveTexts MembersHaveTexts (member k p.0) (λ ms all. (key, here, all)) (more p.1) (rest p.1 there)) (one ts) (keeps ts h)

  members_texts : (n : ℕ) → Keeps MembersHaveTexts (members one n)
  unfolding members
  members_texts zero ts h = tt
  members_texts (suc n) ts h = bound IsKey MembersHaveTexts _ (λ p key there. members_step_texts (members one n) (members_texts n) p.0 p.1 key there) (read_key ts) (key_texts ts h)

with_texts : (a : Parse Items) (o : Parse Members) → Keeps ItemsHaveTexts a → Keeps MembersHaveTexts o → Keeps HasTexts (value_with a o)
with_texts a o items members [] h = tt
with_texts a o items members (token.begin_object ∷ ts) h = mapped MembersHaveTexts HasTexts object (λ ms all. all) (o ts) (members ts h.1)
with_texts a o items members (token.end_object ∷ ts) h = tt
with_texts a o items members (token.begin_array ∷ ts) h = mapped ItemsHaveTexts HasTexts array (λ js all. all) (a ts) (items ts h.1)
with_texts a o items members (token.end_array ∷ ts) h = tt
with_texts a o items members (token.key s ∷ ts) h = tt
with_texts a o items members (token.string s ∷ ts) h = (h.0, h.1)
with_texts a o items members (token.number s ∷ ts) h = (tt, h.1)
with_texts a o items members (token.boolean b ∷ ts) h = (tt, h.1)
with_texts a o items members (token.null ∷ ts) h = (tt, h.1)
with_texts a o items members (token.bad ∷ ts) h = tt

value_texts : (depth : ℕ) → Keeps HasTexts (value depth)
unfolding value
value_texts zero = with_texts (λ ts. None) (λ ts. None) (λ ts h. tt) (λ ts h. tt)
value_texts (suc depth) =
    with_texts (λ ts. items (value depth) (length ts) ts) (λ ts. members (value depth) (length ts) ts)
    (λ ts h. items_texts (value depth) (value_texts depth) (length ts) ts h) (λ ts h. members_texts (value depth) (value_texts depth) (length ts) ts h)

last_texts : (j : Json) (ts : List Token) → HasTexts j → IfSome (if_last j ts) HasTexts
last_texts j [] h = h
last_texts j (t ∷ ts) h = tt

whole_texts : (read : Option (Json × List Token)) → Reads HasTexts read → IfSome (option_and_then (λ p. if_last p.0 p.1) read) HasTexts
whole_texts None h = tt
whole_texts (Some p) h = last_texts p.0 p.1 h.0

pub read-texts : (depth : ℕ) (ts : List Token) → HaveTexts ts → IfSome (option_and_then (λ p. if_last p.0 p.1) (value depth ts)) HasTexts
read-texts depth ts h = whole_texts (value depth ts) (value_texts depth ts h)
