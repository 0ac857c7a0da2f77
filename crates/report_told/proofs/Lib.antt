pub mod VerdictLemmas
pub mod TimesLemmas
pub mod SettingsLemmas
