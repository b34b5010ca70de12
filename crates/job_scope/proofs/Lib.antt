pub mod BaseScopes
pub mod OneRefusal
pub mod ScopeSubjects
pub mod Scopes
