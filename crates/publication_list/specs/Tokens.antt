-- What clauses say of a list, of who published in it, and of who serves.
use Rattle.std.specs.Prelude.{◌≡◌, ℕ, List, [], ◌∷◌, map, Option, Some, None}
use Rattle.publication_list.specs.declared.list.PublicationList.{PublicationList}
use Rattle.publication_list.specs.declared.published.Published.{Published}
use Rattle.publication_list.specs.declared.server.Server.{Server}
use Rattle.publication_list.specs.Places.{asked_in}

-- what the list was told when it was made
abbrev pub key_of : {A B K P : Type 0} → PublicationList A B K P → K
key_of list = list.table.shared.key

-- it lies in this list
abbrev pub IsPublishedIn : {A B K P : Type 0} → PublicationList A B K P → Published A B K → Type 0
IsPublishedIn list p = p.seat.table_id ≡ list.table.shared.table_id

-- the request that was published
abbrev pub asked : {A B K : Type 0} → Published A B K → Option A
asked p = asked_in p.seat.me.0.asks

-- where it lies
abbrev pub place_of : {A B K : Type 0} → Published A B K → ℕ
place_of p = p.place

-- the reply answers the request
abbrev pub IsReplyTo : {A B : Type 0} → (A → B → Type 0) → Option A → B → Type 0
IsReplyTo answers (Some a) b = answers a b
IsReplyTo answers None b = ⊥

-- it serves this list
abbrev pub IsServerOf : {A B K P : Type 0} → PublicationList A B K P → Server A B K → Type 0
IsServerOf list server = (server.seat.table_id ≡ list.table.shared.table_id) × (server.seat.me.0.key ≡ list.table.shared.key)

-- the requests that it has claimed and not answered, the oldest first
abbrev pub claims : {A B K : Type 0} → Server A B K → List A
claims server = map (λ claim. claim.1) server.seat.me.0.claims

-- the places where these lie
abbrev pub places_of : {A B K : Type 0} → Server A B K → List ℕ
places_of server = map (λ claim. claim.0) server.seat.me.0.claims

-- the reply answers the first of the requests
abbrev pub AnswersFirst : {A B : Type 0} → (A → B → Type 0) → List A → B → Type 0
AnswersFirst answers (a ∷ rest) b = answers a b
AnswersFirst answers [] b = ⊥
