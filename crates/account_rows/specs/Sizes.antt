-- How many bytes entries count.
use Rattle.std.specs.Prelude.{ℕ, ◌+◌, List, [], ◌∷◌, length, fold, Option, Some, None}
use Rattle.kms_names.specs.Principal.{principal_text}
use Rattle.kms_names.specs.declared.principals.Principal.{Principal}
use Rattle.enc_context.specs.Encoding.{encoding_of}
use Rattle.resource_tags.specs.declared.tags.Tag.{Tag as TagValue}
use Rattle.grant_table.specs.declared.constraints.Constraint.{Constraint}
use Rattle.grant_table.specs.declared.constraints.Constraint.TheVariants.{Free, Equals, Subset}
use Rattle.account_rows.specs.declared.entries.Entry.{Entry}
use Rattle.account_rows.specs.declared.entries.What.{What}
use Rattle.account_rows.specs.declared.entries.What.TheVariants.{CreateKey, Policy, Description, Tag, Untag, AliasPut, AliasDrop, GrantAdd}

-- the bytes of a grant's name, where it has one
abbrev pub name_size : Option (List ℕ) → ℕ
name_size None = 0
name_size (Some name) = length name

-- the bytes of the printed ARN of a grant's retiring principal, where it has one
abbrev pub retiring_size : Option Principal → ℕ
retiring_size None = 0
retiring_size (Some retiring) = length (principal_text retiring)

-- the bytes of the encoded context of a constraint
abbrev pub constraint_size : Constraint → ℕ
constraint_size Free = 0
constraint_size (Equals pairs) = length (encoding_of pairs)
constraint_size (Subset pairs) = length (encoding_of pairs)

-- the bytes of the keys and values of tags
abbrev pub tags_size : List TagValue → ℕ
tags_size [] = 0
tags_size (tag ∷ more) = length tag.key + length tag.value + tags_size more

-- the bytes of texts
abbrev pub texts_size : List (List ℕ) → ℕ
texts_size [] = 0
texts_size (text ∷ more) = length text + texts_size more

-- 64, and the bytes of its description, of its policy or other text, of its alias name, of its grant's name, of the
-- printed ARNs of its grantee and retiring principal, of the encoded context of its constraint, of the keys and values of
-- its tags, and of the keys of the tags that it drops
abbrev pub size_of : What → ℕ
size_of (CreateKey key kind description policy tags) = 64 + length description + length policy + tags_size tags
size_of (Policy key text) = 64 + length text
size_of (Description key text) = 64 + length text
size_of (Tag key tags) = 64 + tags_size tags
size_of (Untag key keys) = 64 + texts_size keys
size_of (AliasPut name key) = 64 + length name
size_of (AliasDrop name) = 64 + length name
size_of (GrantAdd grant key grantee retiring operations constraint name) = 64 + name_size name + length (principal_text grantee) + retiring_size retiring + constraint_size constraint
size_of _ = 64

-- those of a history
abbrev pub bytes_in : List Entry → ℕ
bytes_in history = fold (λ bytes entry. bytes + size_of entry.what) 0 history
